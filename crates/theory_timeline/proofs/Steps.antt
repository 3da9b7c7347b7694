-- The graphs that are made step by step down the windows: each window has one, it has the small graph's nodes and places and is as small,
-- and kept is the sum of its nodes. So kept is defined by the contraction of each window's own network, though the program contracts what the window above
-- kept.
-- Assumes nothing.
use Prim.Native.Nat.{◌+◌, ◌<◌, ◌≤◌, ℕ}
use mathlib.Core.Bool.{true}
use mathlib.Core.List.{List, Memᴰ, [], ◌++◌, ◌∷◌, map}
use mathlib.Core.Path.{◌≡◌, ap₂, refl, subst, sym}
use lib.Dec.{ltb}
use native.Mathlib.Omega.{arith}
use borrow.Author.Tests.{lt-ltb}
use Rattle.theory_graph.proofs.Ends.{ends_in_append, ends_in_image, ends_in_mem}
use Rattle.theory_graph.proofs.Lists.{member_mem}
use Rattle.theory_graph.specs.Contraction.{contract, number}
use Rattle.theory_graph.specs.Lists.{member, sum}
use Rattle.theory_graph.specs.SmallGraph.{different, ends_in, image, most_nodes}
use Rattle.theory_names.proofs.NamedContraction.{contract_is_named_small}
use Rattle.theory_names.proofs.NamedCuts.{plain_added}
use Rattle.theory_names.proofs.NamedUniqueness.{named_renumbered}
use Rattle.theory_names.specs.Names.{Named, plain}
use Rattle.theory_names.specs.NamedSmallGraph.{NamedRenumbered, image_named}
use Rattle.theory_timeline.proofs.Acceptance.{Good}
use Rattle.theory_timeline.proofs.DemandThree.{faithful, named_is, network_inside}
use Rattle.theory_timeline.proofs.Networks.{active_part, added_active, left_part, made_small, right_part}
use Rattle.theory_timeline.proofs.WindowLaws.{Win, left, right, whole}
use Rattle.theory_timeline.specs.DemandThree.{Allowed}
use Rattle.theory_timeline.specs.Steps.{Made, Part, added, down, top}
use Rattle.theory_timeline.specs.Windows.{Timeline, Window, active, kept, network, size, small, small_named, stands, windows}

-- ---- what was made has the small graph's nodes and places
module _ (g : Timeline) (good : Good g) (w : Window) (n : ℕ) (H : Named) (σ : ℕ → ℕ) (m : Made g w n H σ) where
  -- and its edges with their names, but for the numbers of nodes without an active junction
  pub made_renumbered : NamedRenumbered (active g w) (small g w).nodes (small_named g w) (stands g w) n H σ
  made_renumbered = let (ρ, s) = made_small m in named_renumbered (network g w) (active g w) _ _ _ _ (named_is g good w) n H ρ σ s

  pub made_nodes : n ≡ (small g w).nodes
  made_nodes = sym made_renumbered.graph.nodes

  pub made_map : map σ (active g w) ≡ (small g w).map
  unfolding small contract stands number
  made_map = sym made_renumbered.graph.places

  pub made_bound : n ≤ most_nodes (different (active g w))
  made_bound = subst (λ (k : ℕ). k ≤ most_nodes (different (active g w))) (sym made_nodes) (faithful g good w).nodes

map_low : (σ : ℕ → ℕ) (h : ℕ) (S : List ℕ) → ((a : ℕ) → Memᴰ a S → σ a < h) → (v : ℕ) → Memᴰ v (map σ S) → v < h
map_low σ h [] f v x'' = elim x'' [ ]
map_low σ h (x ∷ S) f v (Memᴰ.head p) = subst (λ (v : ℕ). v < h) (sym p) (f x (Memᴰ.head refl))
map_low σ h (x ∷ S) f v (Memᴰ.tail m) = map_low σ h S (λ a m. f a (Memᴰ.tail m)) v m

abbrev Some : Timeline → Window → Type 0
Some g w = (n : ℕ) × (H : Named) × (σ : ℕ → ℕ) × Made g w n H σ

step : (g : Timeline) (w c : Window) → Part w c → Some g w → Some g c
step g w c h (n, H, σ, m) =
    let (ρ, s) = made_small m in
    let low : (a : ℕ) → Memᴰ a (active g w) → σ a < n = λ a k. (s.small.place a k).0 in
    let wH : ends_in (λ v. ltb v n) (plain (H ++ image_named σ (added g w c))) ≡ true =
    rw (plain_added σ H (added g w c)) (ends_in_append (λ v. ltb v n) (plain H) (image σ (plain (added g w c)))
    (ends_in_mem (λ v. ltb v n) (plain H) (λ i j k. let (a, b, _) = s.small.edge i j k in (lt-ltb i n (omega arith), lt-ltb j n b)))
    (ends_in_image (member (active g w)) (λ v. ltb v n) σ (plain (added g w c)) (added_active g w c h) (λ v k. lt-ltb (σ v) n (low v (member_mem (active g w) v k))))) in (
      _,
      _,
      _,
      down m h _ (contract_is_named_small n (H ++ image_named σ (added g w c)) (map σ (active g c)) wH (map_low σ n (active g c) (λ a k. low a (active_part g w c h a k)))),
    )

pub made : (g : Timeline) → Good g → (p : ℕ) → Allowed p → {at n : ℕ} → Win p (size g) at n → Some g (at, n)
made g good p a (whole h) = (
  _,
  _,
  _,
  top _ (contract_is_named_small g.junctions (network g (0, size g)) (active g (0, size g)) (network_inside g good (0, size g)) (good.active (0, size g))),
)
made g good p a (left {at = at} {n = n} W h) = step g (at, n) _ (left_part p (at, n) a h) (made g good p a W)
made g good p a (right {at = at} {n = n} W h) = step g (at, n) _ (right_part p (at, n) a h) (made g good p a W)

-- ---- kept, though the program contracts what the window above kept
sum_same : (f h : Window → ℕ) (l : List Window) → ((w : Window) → Memᴰ w l → f w ≡ h w) → sum (map f l) ≡ sum (map h l)
sum_same f h [] e = refl
sum_same f h (w ∷ l) e = ap₂ ◌+◌ (e w (Memᴰ.head refl)) (sum_same f h l (λ v m. e v (Memᴰ.tail m)))

pub made_kept : (g : Timeline) → Good g → (p : ℕ) (f : Window → ℕ) → ((w : Window) → Memᴰ w (windows p (size g)) → (H : Named) × (σ : ℕ → ℕ) × Made g w (f w) H σ)
    → sum (map f (windows p (size g))) ≡ kept g p
unfolding kept
made_kept g good p f m = sum_same f (λ w. (small g w).nodes) (windows p (size g)) (λ w k. let (H, σ, d) = m w k in made_nodes g good w (f w) H σ d)
