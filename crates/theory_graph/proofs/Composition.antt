-- Composition (docs/theory.md 9): a small graph of a graph that carries (E, S), with edges F between active nodes added, is a small graph of E with F.
-- Assumes nothing.
use Prim.Native.Nat.{◌<◌, ◌≤◌, ℕ}
use mathlib.Core.Bool.{true}
use mathlib.Core.List.{List, Memᴰ, ◌++◌, map}
use mathlib.Core.Path.{◌∙◌, ◌≡◌, ap, subst, sym}
use lib.Dec.{ltb}
use native.Mathlib.Omega.{arith}
use Rattle.theory_graph.proofs.Booleans.{majority_ap}
use Rattle.theory_graph.proofs.Kept.{Kept}
use Rattle.theory_graph.proofs.Lists.{map_mem, map_twice, mem_map}
use Rattle.theory_graph.proofs.Medians.{median, median_connected}
use Rattle.theory_graph.proofs.Separation.{insep_sym, insep_trans, same_side, same_two_edge, two_edge_connected}
use Rattle.theory_graph.proofs.SmallGraphs.{Linked, SmallGraph}
use Rattle.theory_graph.proofs.Transfer.{cut_off_down, cut_off_up, cuts_add, home, in_N, insep_down, insep_up, reach_N}
use Rattle.theory_graph.specs.Cut.{Connected, TwoEdgeConnected, cut}
use Rattle.theory_graph.specs.Graph.{Edge, NodeSet}
use Rattle.theory_graph.specs.Lists.{member}
use Rattle.theory_graph.specs.SmallGraph.{Carries, SameCuts, ◌∘◌, ends_in, image, in_order}

module _ (E : List Edge) (S : List ℕ) (h : ℕ) (H : List Edge) (ρ σ : ℕ → ℕ) (g : Carries E S h H ρ σ) (F : List Edge) (w : ends_in (member S) F ≡ true)
    (S' : List ℕ) (sub : (a : ℕ) → Memᴰ a S' → Memᴰ a S) (h' : ℕ) (H' : List Edge) (ρ' σ' : ℕ → ℕ) (g' : SmallGraph (H ++ image σ F) (map σ S') h' H' ρ' σ') where
  abbrev N : NodeSet
  N v = ltb v h

  abbrev EF : List Edge
  EF = E ++ F

  abbrev HF : List Edge
  HF = H ++ image σ F

  T : SameCuts N ρ HF EF
  T = cuts_add E S h H ρ σ g F w

  at_class : (a : ℕ) → Memᴰ a S → TwoEdgeConnected EF a (ρ (σ a))
  at_class = home E S h H ρ σ g F w

  in_nodes : (a : ℕ) → Memᴰ a S → N (σ a) ≡ true
  in_nodes = in_N E S h H ρ σ g F w

  pub nodes : (i : ℕ) → i < h' → N (ρ' i) ≡ true
  nodes i l =
      let k = g'.kept i l in
      let (a, m, e) = map_mem σ k.a S' k.in_a in
      reach_N E S h H ρ σ g F w (ρ' i) a (sub a m) (subst (λ (v : ℕ). Connected HF (ρ' i) v) e k.to_a)

  up_kept : (v : ℕ) → N v ≡ true → Kept HF (map σ S') v → Kept EF S' (ρ v)
  up_kept v n k =
      let (a, ma, ea) = map_mem σ k.a S' k.in_a in
      let (b, mb, eb) = map_mem σ k.b S' k.in_b in
      let (c, mc, ec) = map_mem σ k.c S' k.in_c in
      record {
        a = a;
        b = b;
        c = c;
        in_a = ma;
        in_b = mb;
        in_c = mc;
        to_a = go a ma (subst (λ (u : ℕ). Connected HF v u) ea k.to_a);
        to_b = go b mb (subst (λ (u : ℕ). Connected HF v u) eb k.to_b);
        to_c = go c mc (subst (λ (u : ℕ). Connected HF v u) ec k.to_c);
        mid = λ U q.
            k.mid (U ∘ ρ) (omega (arith, T.down U q)) ∙ majority_ap (val U q a ma ea) (val U q b mb eb) (val U q c mc ec);
      }
    where
      go : (a : ℕ) → Memᴰ a S' → Connected HF v (σ a) → Connected EF (ρ v) a
      go a m j = insep_trans EF (insep_up N ρ HF EF T 0 v (σ a) (omega arith) n (in_nodes a (sub a m)) j) (insep_sym EF (two_edge_connected EF (at_class a (sub a m))))

      val : (U : NodeSet) → cut U EF ≤ 1 → {x : ℕ} (a : ℕ) → Memᴰ a S' → x ≡ σ a → U (ρ x) ≡ U a
      val U q a m e = ap (λ z. U (ρ z)) e ∙ sym (same_side EF a (ρ (σ a)) (at_class a (sub a m)) U q)

  reps : (z : ℕ) → Kept EF S' z → (i : ℕ) × (i < h') × TwoEdgeConnected EF z (ρ (ρ' i))
  reps z k =
      let pa = at_class k.a (sub _ k.in_a) in
      let pb = at_class k.b (sub _ k.in_b) in
      let pc = at_class k.c (sub _ k.in_c) in
      let ab = link k.a k.b k.in_a k.in_b (insep_trans EF (insep_sym EF k.to_a) k.to_b) in
      let ac = link k.a k.c k.in_a k.in_c (insep_trans EF (insep_sym EF k.to_a) k.to_c) in
      let (m, M) = median HF (σ k.a) (σ k.b) (σ k.c) ab ac in
      let ma = median_connected HF (σ k.a) (σ k.b) (σ k.c) m ab M in
      let km : Kept HF (map σ S') m =
      record {
        a = σ k.a;
        b = σ k.b;
        c = σ k.c;
        in_a = mem_map σ k.in_a;
        in_b = mem_map σ k.in_b;
        in_c = mem_map σ k.in_c;
        to_a = ma;
        to_b = insep_trans HF ma ab;
        to_c = insep_trans HF ma ac;
        mid = M;
      } in
      let (i, l, t) = g'.all m km in (
        i,
        l,
        same_two_edge EF z (ρ (ρ' i)) (λ U q.
            let q' : cut (U ∘ ρ) HF ≤ 1 = omega (arith, T.down U q) in
            k.mid U q ∙ majority_ap (same_side EF _ _ pa U q) (same_side EF _ _ pb U q) (same_side EF _ _ pc U q) ∙ sym (M (U ∘ ρ) q') ∙ same_side HF m (ρ' i) t (U ∘ ρ) q'),
      )
    where
      link : (a b : ℕ) → Memᴰ a S' → Memᴰ b S' → Connected EF a b → Connected HF (σ a) (σ b)
      link a b ma mb j =
          insep_down N ρ HF EF T 0 (σ a) (σ b) (omega arith) (in_nodes a (sub a ma)) (in_nodes b (sub b mb))
          (insep_trans EF (insep_sym EF (two_edge_connected EF (at_class a (sub a ma)))) (insep_trans EF j (two_edge_connected EF (at_class b (sub b mb)))))

  link_up : (i j : ℕ) → i < h' → j < h' → Linked HF h' ρ' i j → Linked EF h' (λ v. ρ (ρ' v)) i j
  link_up i j li lj l =
      record {
        to = insep_up N ρ HF EF T 0 (ρ' i) (ρ' j) (omega arith) (nodes i li) (nodes j lj) l.to;
        third = λ k lk b. l.third k lk (λ s. b (cut_off_up N ρ HF EF T (ρ' k) (ρ' i) (ρ' j) (nodes k lk) (nodes i li) (nodes j lj) s));
      }

  link_down : (i j : ℕ) → i < h' → j < h' → Linked EF h' (λ v. ρ (ρ' v)) i j → Linked HF h' ρ' i j
  link_down i j li lj l =
      record {
        to = insep_down N ρ HF EF T 0 (ρ' i) (ρ' j) (omega arith) (nodes i li) (nodes j lj) l.to;
        third = λ k lk b. l.third k lk (λ s. b (cut_off_down N ρ HF EF T (ρ' k) (ρ' i) (ρ' j) s));
      }

  pub compose : SmallGraph EF S' h' H' (λ v. ρ (ρ' v)) (λ a. σ' (σ a))
  compose =
      record {
        kept = λ i l. up_kept (ρ' i) (nodes i l) (g'.kept i l);
        once = λ i j li lj t. g'.once i j li lj (insep_down N ρ HF EF T 1 (ρ' i) (ρ' j) (omega arith) (nodes i li) (nodes j lj) t);
        all = reps;
        place = λ a m.
            let (l, t) = g'.place (σ a) (mem_map σ m) in
            (l, insep_trans EF (at_class a (sub a m)) (insep_up N ρ HF EF T 1 (σ a) (ρ' (σ' (σ a))) (omega arith) (in_nodes a (sub a m)) (nodes (σ' (σ a)) l) t));
        order = ap (in_order 0) (sym (map_twice σ' σ S')) ∙ g'.order;
        ascends = g'.ascends;
        edge = λ i j m.
            let (a, b, l) = g'.edge i j m in
            (a, b, link_up i j (omega arith) b l);
        linked = λ i j a b l. g'.linked i j a b (link_down i j (omega arith) b l);
      }
