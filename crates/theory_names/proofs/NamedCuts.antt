-- Laws of names, the sum of the names of the entries that leave a set: additive, the same for the complement, for moved entries and for sets that agree,
-- at most the sum for unions and meets, 0 where no entry leaves the set, and the entry's name where just one does. And the plain graph of appended and of moved entries.
-- Assumes nothing.
use Prim.Native.Nat.{◌*◌, ◌+◌, ◌<◌, ◌≤◌, ℕ}
use mathlib.Core.Bool.{Bool, ◌&&◌, and-eq-true_iff, not, true}
use mathlib.Core.List.{List, Memᴰ, [], ◌++◌, ◌∷◌}
use mathlib.Core.Path.{◌∙◌, ◌≡◌, ap, ap₂, refl, subst, sym}
use lib.Dec.{eqb, eqb→eq, leb, leb→le, ltb}
use native.Mathlib.Nat.{add-mul, mul-le-mul_right}
use native.Mathlib.Omega.{arith}
use borrow.Author.Tests.{ltb-false, ltb-true}
use Rattle.theory_graph.proofs.Booleans.{on_bool, taut2, taut4}
use Rattle.theory_graph.proofs.Cuts.{crosses_le, crosses_union, crossing, in_crossing}
use Rattle.theory_graph.specs.Cut.{◌∩◌, ◌∪◌, crosses, cut, ∁}
use Rattle.theory_graph.specs.Graph.{Edge, NodeSet}
use Rattle.theory_graph.specs.Route.{Adjacent, back, fore, next}
use Rattle.theory_graph.specs.SmallGraph.{◌∘◌, ends_in, image}
use Rattle.theory_names.specs.NamedSmallGraph.{image_named}
use Rattle.theory_names.specs.Names.{Entry, Named, SameEntries, cut_names, plain, weigh}

-- ---- the plain graph
pub plain_append : (G F : Named) → plain (G ++ F) ≡ plain G ++ plain F
plain_append [] F = refl
plain_append (e ∷ G) F = ap (λ (E : List Edge). e.0 ∷ E) (plain_append G F)

pub plain_image : (ρ : ℕ → ℕ) (F : Named) → plain (image_named ρ F) ≡ image ρ (plain F)
plain_image ρ [] = refl
plain_image ρ (e ∷ F) = ap (λ (E : List Edge). (ρ e.0.0, ρ e.0.1) ∷ E) (plain_image ρ F)

pub plain_added : (ρ : ℕ → ℕ) (H F : Named) → plain (H ++ image_named ρ F) ≡ plain H ++ image ρ (plain F)
plain_added ρ H F = plain_append H (image_named ρ F) ∙ ap (λ (E : List Edge). plain H ++ E) (plain_image ρ F)

pub plain_in : {e : Entry} {G : Named} → Memᴰ e G → Memᴰ e.0 (plain G)
plain_in (Memᴰ.head p) = Memᴰ.head (ap (λ (e : Entry). e.0) p)
plain_in (Memᴰ.tail m) = Memᴰ.tail (plain_in m)

pub in_plain : (G : Named) {e : Edge} → Memᴰ e (plain G) → (n : ℕ) × Memᴰ (e, n) G
in_plain [] {e = e} x' = elim x' [ ]
in_plain (f ∷ G) {e} (Memᴰ.head p) = (f.1, Memᴰ.head (ap (λ (g : Edge). (g, f.1)) p))
in_plain (f ∷ G) (Memᴰ.tail m) = let (n, k) = in_plain G m in (n, Memᴰ.tail k)

-- an entry of a list is an edge of it, either way round
pub adjacent_fore : {e : Edge} {E : List Edge} → Memᴰ e E → Adjacent e.0 e.1 E
adjacent_fore {e} (Memᴰ.head {xs = E} p) = subst (λ (f : Edge). Adjacent e.0 e.1 (f ∷ E)) p fore
adjacent_fore (Memᴰ.tail m) = next (adjacent_fore m)

pub adjacent_back : {e : Edge} {E : List Edge} → Memᴰ e E → Adjacent e.1 e.0 E
adjacent_back {e} (Memᴰ.head {xs = E} p) = subst (λ (f : Edge). Adjacent e.1 e.0 (f ∷ E)) p back
adjacent_back (Memᴰ.tail m) = next (adjacent_back m)

-- ---- sums
pub weigh_append : (f : ℕ → ℕ) (U : NodeSet) (G F : Named) → weigh f U (G ++ F) ≡ weigh f U G + weigh f U F
weigh_append f U [] F = omega arith
weigh_append f U (e ∷ G) F = omega (arith, weigh_append f U G F)

pub weigh_image : (f : ℕ → ℕ) (U : NodeSet) (ρ : ℕ → ℕ) (F : Named) → weigh f U (image_named ρ F) ≡ weigh f (U ∘ ρ) F
weigh_image f U ρ [] = refl
weigh_image f U ρ (e ∷ F) = ap (λ (k : ℕ). crosses (U (ρ e.0.0)) (U (ρ e.0.1)) * f e.1 + k) (weigh_image f U ρ F)

-- where each name weighs 1, the number of the entries that leave the set
pub cut_weigh : (U : NodeSet) (G : Named) → cut U (plain G) ≡ weigh (λ n. 1) U G
cut_weigh U [] = refl
cut_weigh U (e ∷ G) = omega (arith, cut_weigh U G)

pub same_cuts : {G H : Named} → SameEntries G H → (U : NodeSet) → cut U (plain G) ≡ cut U (plain H)
same_cuts {G} {H} s U = cut_weigh U G ∙ s.weights (λ n. 1) U ∙ sym (cut_weigh U H)

pub names_append : (U : NodeSet) (G F : Named) → cut_names U (G ++ F) ≡ cut_names U G + cut_names U F
names_append U G F = weigh_append (λ n. n) U G F

crosses_not : (a b : Bool) → crosses (not a) (not b) ≡ crosses a b
crosses_not a b = eqb→eq _ _ (taut2 (λ a b. eqb (crosses (not a) (not b)) (crosses a b)) tt a b)

pub names_complement : (U : NodeSet) (G : Named) → cut_names (∁ U) G ≡ cut_names U G
names_complement U [] = refl
names_complement U (e ∷ G) = ap₂ ◌+◌ (ap (λ (k : ℕ). k * e.1) (crosses_not (U e.0.0) (U e.0.1))) (names_complement U G)

pub names_image : (U : NodeSet) (ρ : ℕ → ℕ) (F : Named) → cut_names U (image_named ρ F) ≡ cut_names (U ∘ ρ) F
names_image U ρ F = weigh_image (λ n. n) U ρ F

pub names_agree : (N U W : NodeSet) (F : Named) → ends_in N (plain F) ≡ true → ((v : ℕ) → N v ≡ true → U v ≡ W v) → cut_names U F ≡ cut_names W F
names_agree N U W [] w h = refl
names_agree N U W (e ∷ F) w h =
    let (p, w') = (and-eq-true_iff (N e.0.0) (N e.0.1 && ends_in N (plain F))).0 w in
    let (q, r) = (and-eq-true_iff (N e.0.1) (ends_in N (plain F))).0 w' in
    ap₂ (λ (k l : ℕ). k * e.1 + l) (ap₂ crosses (h e.0.0 p) (h e.0.1 q)) (names_agree N U W F r h)

-- ---- unions and meets
times_le : (i j k n : ℕ) → i ≤ j + k → i * n ≤ j * n + k * n
times_le i j k n h = omega (arith, mul-le-mul_right n h, add-mul j k n)

crosses_meet : (a b c e : Bool) → crosses (a && c) (b && e) ≤ crosses a b + crosses c e
crosses_meet a b c e = leb→le _ _ (taut4 (λ a b c e. leb (crosses (a && c) (b && e)) (crosses a b + crosses c e)) tt a b c e)

pub names_union : (U W : NodeSet) (G : Named) → cut_names (U ∪ W) G ≤ cut_names U G + cut_names W G
names_union U W [] = omega arith
names_union U W (e ∷ G) = omega (arith, names_union U W G, times_le _ _ _ e.1 (crosses_union (U e.0.0) (U e.0.1) (W e.0.0) (W e.0.1)))

pub names_meet : (U W : NodeSet) (G : Named) → cut_names (U ∩ W) G ≤ cut_names U G + cut_names W G
names_meet U W [] = omega arith
names_meet U W (e ∷ G) = omega (arith, names_meet U W G, times_le _ _ _ e.1 (crosses_meet (U e.0.0) (U e.0.1) (W e.0.0) (W e.0.1)))

-- ---- small cuts
pub names_closed : (U : NodeSet) (G : Named) → cut U (plain G) ≤ 0 → cut_names U G ≡ 0
names_closed U [] c = refl
names_closed U (e ∷ G) c =
    let z : crosses (U e.0.0) (U e.0.1) ≡ 0 = omega arith in
    omega (arith, ap (λ (k : ℕ). k * e.1) z, names_closed U G (omega arith))

-- some entry leaves a set that is not closed
pub entry_leaves : (U : NodeSet) (G : Named) → 0 < cut U (plain G) → (e : Entry) × Memᴰ e G × (0 < crossing U e.0)
entry_leaves U [] h = absurd (omega arith)
entry_leaves U (e ∷ G) h =
    on_bool (ltb 0 (crossing U e.0)) (λ t. (e, Memᴰ.head refl, ltb-true 0 (crossing U e.0) t)) λ t.
    let (f, m, c) = entry_leaves U G (omega (arith, ltb-false 0 (crossing U e.0) t)) in (f, Memᴰ.tail m, c)

-- where just one entry leaves the set, names is its name
pub names_one : (U : NodeSet) (e : Entry) {G : Named} → cut U (plain G) ≤ 1 → Memᴰ e G → 0 < crossing U e.0 → cut_names U G ≡ e.1
names_one U e {G = []} c x3 l = elim x3 [ ]
names_one U e {G = f ∷ G} c (Memᴰ.head p) l =
    let l' : 0 < crossing U f.0 = subst (λ (g : Entry). 0 < crossing U g.0) p l in
    let k : crossing U f.0 ≡ 1 = omega (arith, crosses_le (U f.0.0) (U f.0.1)) in
    omega (arith, ap (λ (k : ℕ). k * f.1) k, names_closed U G (omega arith), ap (λ (g : Entry). g.1) p)
names_one U e {G = f ∷ G} c (Memᴰ.tail m) l =
    let k : crossing U f.0 ≡ 0 = omega (arith, in_crossing U e.0 (plain_in m) l) in
    omega (arith, ap (λ (k : ℕ). k * f.1) k, names_one U e {G = G} (omega arith) m l)
