-- The small cuts of a named graph and of its named small graph agree, names included: a set that one entry leaves has an image that at most one edge leaves, whose name is at most the entry's;
-- and a set that one edge of the small graph leaves is the image of one that one entry leaves, whose name is at most the edge's.
-- In order: two small cuts with an edge in common agree on its piece; the image of a small cut; a small cut that has a given image; the same in the words of entries.
-- Assumes nothing.
use Prim.Native.Nat.{◌<◌, ◌≤◌, ℕ}
use mathlib.Core.Bool.{Bool, ◌&&◌, ◌||◌, false, not, true}
use mathlib.Core.List.{List, Memᴰ}
use mathlib.Core.Path.{◌∙◌, ◌≡◌, ap, ap₂, refl, subst, sym}
use lib.Dec.{ltb}
use native.Mathlib.Omega.{arith}
use borrow.Author.Tests.{lt-ltb, ltb-false, ltb-true}
use Rattle.theory_graph.proofs.Adjacency.{adj_union, induced_le, induced_split}
use Rattle.theory_graph.proofs.Booleans.{contradict, on_bool}
use Rattle.theory_graph.proofs.Cuts.{crosses_one, crossing, cut_agree, cut_complement, cut_submodular}
use Rattle.theory_graph.proofs.Lifting.{small_cuts}
use Rattle.theory_graph.proofs.Reach.{reach, reach_closed, reach_connected, reach_self}
use Rattle.theory_graph.proofs.Separation.{insep_cut, insep_sym}
use Rattle.theory_graph.proofs.SmallGraphDefinition.{definition_small}
use Rattle.theory_graph.proofs.SmallGraphs.{SmallGraph, small_ends_in}
use Rattle.theory_graph.proofs.Transfer.{insep_down}
use Rattle.theory_graph.specs.Cut.{Connected, ◌∖◌, ◌∩◌, ◌∪◌, cut, ∁}
use Rattle.theory_graph.specs.Graph.{Edge, NodeSet}
use Rattle.theory_graph.specs.Route.{Adjacent}
use Rattle.theory_graph.specs.SmallGraph.{SameCuts, ◌∘◌, ends_in}
use Rattle.theory_names.proofs.Hangs.{hangs_least, hangs_low, hangs_sixteen, hangs_sym}
use Rattle.theory_names.proofs.NamedCuts.{adjacent_back, adjacent_fore, entry_leaves, names_agree, names_closed, names_meet, names_one, names_union, plain_in}
use Rattle.theory_names.specs.NamedSmallGraph.{IsNamedSmallGraph, NamedCarries, NamedSameCuts}
use Rattle.theory_names.specs.Names.{Entry, Named, Sixteen, hangs, cut_names, plain}

-- ---- two small cuts that one edge leaves, from the same side, agree on what is joined to it
cuts_within : (E : List Edge) (U W : NodeSet) (p q k : ℕ) → cut U E ≤ 1 → cut W E ≤ 1 → Adjacent p q E → U p ≡ true → U q ≡ false → W p ≡ true → W q ≡ false → Connected E p k → U k ≡ false → W k ≡ false
cuts_within E U W p q k c d n Up Uq Wp Wq j Uk =
    on_bool (W k)
    (λ t. absurd (omega (
      arith,
      cut_complement W E,
      adj_union U (∁ W) n Up Uq (ap not Wp) (ap not Wq),
      insep_cut E j (U ∪ (∁ W)) (ap (λ b. b || not (W p)) Up) (ap₂ (λ a b. a || not b) Uk t),
    )))
    (λ f. f)

cuts_agree : (E : List Edge) (U W : NodeSet) (p q k : ℕ) → cut U E ≤ 1 → cut W E ≤ 1 → Adjacent p q E → U p ≡ true → U q ≡ false → W p ≡ true → W q ≡ false → Connected E p k → U k ≡ W k
cuts_agree E U W p q k c d n Up Uq Wp Wq j =
    on_bool (U k)
    (λ t. on_bool (W k) (λ s. t ∙ sym s) (λ s. contradict t (cuts_within E W U p q k d c n Wp Wq Up Uq j s)))
    (λ t. t ∙ sym (cuts_within E U W p q k c d n Up Uq Wp Wq j t))

module _ (G : Named) (S : List ℕ) (h : ℕ) (H : Named) (ρ σ : ℕ → ℕ) (g : IsNamedSmallGraph G S h H ρ σ) where
  abbrev N : NodeSet
  N v = ltb v h

  sg : SmallGraph (plain G) S h (plain H) ρ σ
  sg = definition_small (plain G) S h (plain H) ρ σ g.small

  sc : SameCuts N ρ (plain H) (plain G)
  sc = small_cuts (plain G) S h (plain H) ρ σ sg

  -- the ends of an edge are joined
  edge_joined : {e : Entry} → Memᴰ e H → Connected (plain G) (ρ e.0.0) (ρ e.0.1)
  edge_joined {e} m = (sg.edge e.0.0 e.0.1 (plain_in m)).2.to

  -- ---- the image of a small cut
  names_down : (U : NodeSet) → cut U (plain G) ≤ 1 → cut_names (U ∘ ρ) H ≤ cut_names U G
  names_down U c =
      let d = sc.down U c in
      on_bool (ltb 0 (cut (U ∘ ρ) (plain H)))
      (λ t.
      let (e, m, l) = entry_leaves (U ∘ ρ) H (ltb-true 0 (cut (U ∘ ρ) (plain H)) t) in
      omega (arith, names_one (U ∘ ρ) e (omega arith) m l, g.name e.0.0 e.0.1 e.1 m, hangs_low G (ρ e.0.0) (ρ e.0.1) (edge_joined m) U c l))
      (λ t. omega (arith, ltb-false 0 (cut (U ∘ ρ) (plain H)) t, names_closed (U ∘ ρ) H (omega (arith, ltb-false 0 (cut (U ∘ ρ) (plain H)) t))))

  -- ---- a small cut with a given image
  abbrev Up : NodeSet → Type 0
  Up X = (U : NodeSet) × ((v : ℕ) → N v ≡ true → U (ρ v) ≡ X v) × (cut U (plain G) ≤ cut X (plain H)) × (cut_names U G ≤ cut_names X H)

  -- the edge between p and q, whose name is n, is the one that leaves X
  up_one : (X : NodeSet) → cut X (plain H) ≤ 1 → 0 < cut X (plain H) → (p q n : ℕ) → N p ≡ true → N q ≡ true → Adjacent p q (plain H) → X p ≡ true → X q ≡ false
      → Connected (plain G) (ρ p) (ρ q) → n ≡ hangs G (ρ p) (ρ q) → cut_names X H ≡ n → Up X
  up_one X c pos p q n lp lq adj Xp Xq j e w =
      let (Y, on, le) = sc.up X c in
      let Yp : Y (ρ p) ≡ true = on p lp ∙ Xp in
      let Yq : Y (ρ q) ≡ false = on q lq ∙ Xq in
      let cY : cut Y (plain G) ≤ 1 = omega (arith, le) in
      let (W, Wp, Wq, cW, nW) = (hangs_least G (ρ p) (ρ q) j (Y, Yp, Yq, cY)).some in
      let R = reach (plain G) (ρ p) in
      let zR = reach_closed (plain G) (ρ p) in
      let in_piece : 0 < cut (Y ∩ R) (plain G) = insep_cut (plain G) j (Y ∩ R) (ap₂ ◌&&◌ Yp (reach_self (plain G) (ρ p))) (ap (λ b. b && R (ρ q)) Yq) in
      let rest : cut (Y ∖ R) (plain G) ≤ 0 = omega (arith, induced_split Y R (plain G), induced_le Y R (plain G)) in
      let cWR : cut (W ∩ R) (plain G) ≤ 1 = omega (arith, cut_submodular W R (plain G)) in
      let nWR : cut_names (W ∩ R) G ≤ n = omega (arith, names_meet W R G, names_closed R G zR) in (
        (W ∩ R) ∪ (Y ∖ R),
        λ k l.
            on_bool (R (ρ k))
            (λ t.
            inside (W (ρ k)) (Y (ρ k)) t
            ∙ sym (cuts_agree (plain H) X (W ∘ ρ) p q k c (omega (arith, sc.down W cW)) adj Xp Xq Wp Wq (insep_down N ρ (plain H) (plain G) sc 0 p k (omega arith) lp l (reach_connected (plain G) (ρ p) (ρ k) t))))
            (λ t. outside (W (ρ k)) (Y (ρ k)) t ∙ on k l),
        omega (arith, cut_submodular (W ∩ R) (Y ∖ R) (plain G)),
        omega (arith, names_union (W ∩ R) (Y ∖ R) G, names_closed (Y ∖ R) G rest),
      )
    where
      inside : {r : Bool} (a b : Bool) → r ≡ true → (a && r || b && not r) ≡ a
      inside true true e = rw e
      inside true false e = rw e
      inside false true e = rw e
      inside false false e = refl

      outside : {r : Bool} (a b : Bool) → r ≡ false → (a && r || b && not r) ≡ b
      outside true true e = rw e
      outside true false e = rw e
      outside false true e = rw e
      outside false false e = refl

  names_up : (X : NodeSet) → cut X (plain H) ≤ 1 → Up X
  names_up X c =
      on_bool (ltb 0 (cut X (plain H)))
      (λ t.
      let pos = ltb-true 0 (cut X (plain H)) t in
      let (e, m, l) = entry_leaves X H pos in
      let w = names_one X e c m l in
      let k = g.name e.0.0 e.0.1 e.1 m in
      let j = edge_joined m in
      let (a, b, _) = sg.edge e.0.0 e.0.1 (plain_in m) in
      let l0 : N e.0.0 ≡ true = lt-ltb e.0.0 h (omega arith) in
      let l1 : N e.0.1 ≡ true = lt-ltb e.0.1 h b in
      crosses_one (X e.0.0) (X e.0.1) l
      (λ p q. up_one X c pos e.0.0 e.0.1 e.1 l0 l1 (adjacent_fore (plain_in m)) p q j k w)
      (λ p q. up_one X c pos e.0.1 e.0.0 e.1 l1 l0 (adjacent_back (plain_in m)) q p (insep_sym (plain G) j) (k ∙ hangs_sym G (ρ e.0.0) (ρ e.0.1)) w))
      (λ t. let (U, on, le) = sc.up X c in (U, on, le, omega (arith, names_closed U G (omega (arith, le, ltb-false 0 (cut X (plain H)) t)))))

  -- ---- the small cuts are the same, and so are their names
  pub named_small_cuts : NamedSameCuts N ρ H G
  named_small_cuts = record { down = sc.down; down_name = names_down; up = names_up }

  -- so a named small graph carries
  pub named_small_carries : NamedCarries G S h H ρ σ
  named_small_carries = record { cuts = named_small_cuts; place = sg.place; inside = small_ends_in (plain G) S h (plain H) ρ σ sg }

  -- 16-bit names stay 16-bit names
  pub named_small_sixteen : Sixteen G → Sixteen H
  named_small_sixteen w e m = subst (λ (n : ℕ). n ≤ 65535) (sym (g.name e.0.0 e.0.1 e.1 m)) (hangs_sixteen G (ρ e.0.0) (ρ e.0.1) w (edge_joined m))

  -- ---- in the words of entries
  -- just one entry e leaves U: at most one edge leaves the image of U, and its name is at most e's
  pub image_of_cut : (U : NodeSet) (e : Entry) → cut U (plain G) ≡ 1 → Memᴰ e G → 0 < crossing U e.0
      → (cut (U ∘ ρ) (plain H) ≤ 1) × ((f : Entry) → Memᴰ f H → 0 < crossing (U ∘ ρ) f.0 → f.1 ≤ e.1)
  image_of_cut U e c m l =
      let d = sc.down U (omega arith) in
      (omega arith, λ f k r. omega (arith, names_down U (omega arith), names_one U e (omega arith) m l, names_one (U ∘ ρ) f (omega arith) k r))

  -- Just one edge f leaves X: some U that agrees with X on the nodes is left by just one entry, which has f's name; and an entry that alone leaves such a set has at least f's name.
  pub cut_of_image : (X : NodeSet) (f : Entry) → cut X (plain H) ≡ 1 → Memᴰ f H → 0 < crossing X f.0
      → ((U : NodeSet) × ((v : ℕ) → v < h → U (ρ v) ≡ X v) × (cut U (plain G) ≡ 1) × (cut_names U G ≡ f.1))
      × ((U : NodeSet) → ((v : ℕ) → v < h → U (ρ v) ≡ X v) → cut U (plain G) ≤ 1 → f.1 ≤ cut_names U G)
  cut_of_image X f c m r =
      let (U, on, le, n) = names_up X (omega arith) in
      let w = names_one X f (omega arith) m r in
      let low : (W : NodeSet) → ((v : ℕ) → v < h → W (ρ v) ≡ X v) → cut W (plain G) ≤ 1 → f.1 ≤ cut_names W G = λ W k d.
      omega (arith, w, names_down W d, names_agree N (W ∘ ρ) X H inside (λ v l. k v (ltb-true v h l))) in
      let on' : (v : ℕ) → v < h → U (ρ v) ≡ X v = λ v l. on v (lt-ltb v h l) in
      let d : cut U (plain G) ≤ 1 = omega (arith, le) in
      let pos : 1 ≤ cut U (plain G) = omega (arith, sc.down U d, cut_agree N (U ∘ ρ) X (plain H) inside on) in
      ((U, on', omega arith, omega (arith, n, w, low U on' d)), low)
    where
      inside : ends_in N (plain H) ≡ true
      inside = small_ends_in (plain G) S h (plain H) ρ σ sg
