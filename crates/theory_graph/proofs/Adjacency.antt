-- Edges between two nodes, and the edges inside a set: an edge leaves each set that is not closed; what an edge says of the cuts it crosses;
-- cuts of the edges inside a set.
-- Assumes nothing.
use Prim.Native.Nat.{◌*◌, ◌+◌, ◌<◌, ◌≤◌, ℕ}
use mathlib.Core.Bool.{Bool, ◌&&◌, and-false, cond, false, true}
use mathlib.Core.List.{List, [], ◌∷◌}
use mathlib.Core.Path.{◌≡◌, ap₂, refl, sym}
use native.Mathlib.Omega.{arith}
use Rattle.theory_graph.proofs.Booleans.{on_bool}
use Rattle.theory_graph.proofs.Cuts.{crosses_split, crosses_swap, crosses_union, crosses_zero, crosses_inside, cut_submodular}
use Rattle.theory_graph.specs.Cut.{◌∖◌, ◌∩◌, ◌∪◌, crosses, cut}
use Rattle.theory_graph.specs.Graph.{Edge, NodeSet, induced}
use Rattle.theory_graph.specs.Route.{Adjacent, back, fore, next}

abbrev pub Leaves : NodeSet → List Edge → Type 0
Leaves U E = (p : ℕ) × (q : ℕ) × (U p ≡ true) × (U q ≡ false) × Adjacent p q E

pub crossing_edge : (U : NodeSet) (E : List Edge) → 0 < cut U E → Leaves U E
crossing_edge U [] h = absurd (omega arith)
crossing_edge U (e ∷ E) h =
    let later : 0 < cut U E → Leaves U (e ∷ E) = λ k. let (p, q, a, b, c) = crossing_edge U E k in (p, q, a, b, next c) in
    on_bool (U e.0)
    (λ a. on_bool (U e.1) (λ b. later (omega (arith, ap₂ crosses a b))) (λ b. (e.0, e.1, a, b, fore)))
    (λ a. on_bool (U e.1) (λ b. (e.1, e.0, b, a, back)) (λ b. later (omega (arith, ap₂ crosses a b))))

pub adj_closed : {p q : ℕ} {E : List Edge} (U : NodeSet) → Adjacent p q E → cut U E ≤ 0 → U p ≡ U q
adj_closed U fore h = crosses_zero _ _ (omega arith)
adj_closed U back h = sym (crosses_zero _ _ (omega arith))
adj_closed U (next a) h = adj_closed U a (omega arith)

pub adj_union : {p q : ℕ} {E : List Edge} (U W : NodeSet) → Adjacent p q E → U p ≡ true → U q ≡ false → W p ≡ false → W q ≡ true → cut (U ∪ W) E + 2 ≤ cut U E + cut W E
adj_union U W (fore {E = F}) a b c e = rw (a, b, c, e) (omega (arith, cut_submodular U W F))
adj_union U W (back {E = F}) a b c e = rw (a, b, c, e) (omega (arith, cut_submodular U W F))
adj_union U W (next {e = f} {E = F} n) a b c e = omega (arith, adj_union U W n a b c e, crosses_union (U f.0) (U f.1) (W f.0) (W f.1))

pub cut_cond_le : (W : NodeSet) (b : Bool) (e : Edge) (F : List Edge) → cut W (cond b (e ∷ F) F) ≤ crosses (W e.0) (W e.1) + cut W F
cut_cond_le W true e F = omega arith
cut_cond_le W false e F = omega arith

pub induced_le : (P W : NodeSet) (E : List Edge) → cut W (induced P E) ≤ cut W E
induced_le P W [] = omega arith
induced_le P W (e ∷ E) = omega (arith, induced_le P W E, cut_cond_le W (P e.0 && P e.1) e (induced P E))

pub induced_closed : (P : NodeSet) (E : List Edge) → cut P (induced P E) ≤ 0
induced_closed P [] = omega arith
induced_closed P (e ∷ E) = go (P e.0) (P e.1) refl refl (induced_closed P E)
  where
    go : (a b : Bool) → P e.0 ≡ a → P e.1 ≡ b → cut P (induced P E) ≤ 0 → cut P (cond (a && b) (e ∷ induced P E) (induced P E)) ≤ 0
    go true true p q h = omega (arith, ap₂ crosses p q)
    go true false p q h = h
    go false b p q h = h

adj_cond : {p q : ℕ} {F : List Edge} (b : Bool) (e : Edge) → Adjacent p q F → Adjacent p q (cond b (e ∷ F) F)
adj_cond true e a = next a
adj_cond false e a = a

pub adj_induced : {p q : ℕ} {E : List Edge} (P : NodeSet) → Adjacent p q E → P p ≡ true → P q ≡ true → Adjacent p q (induced P E)
adj_induced P fore a b = rw (a, b) fore
adj_induced P back a b = rw (b, a) back
adj_induced P (next {e = f} n) a b = adj_cond (P f.0 && P f.1) f (adj_induced P n a b)

pub adj_out : {p q : ℕ} {E : List Edge} (P W : NodeSet) → Adjacent p q E → P q ≡ false → cut W (induced P E) + crosses (W p) (W q) ≤ cut W E
adj_out P W (fore {E = F}) b = rw (b, and-false) (omega (arith, induced_le P W F))
adj_out {p} {q} P W (back {E = F}) b = rw b (omega (arith, induced_le P W F, crosses_swap (W p) (W q)))
adj_out P W (next {e = f} {E = F} n) b = omega (arith, adj_out P W n b, cut_cond_le W (P f.0 && P f.1) f (induced P F))

-- fewer nodes, fewer edges
pub induced_mono : (P W U : NodeSet) (E : List Edge) → ((v : ℕ) → W v ≡ true → P v ≡ true) → cut U (induced W E) ≤ cut U (induced P E)
induced_mono P W U [] h = omega arith
induced_mono P W U (e ∷ E) h = go (W e.0) (W e.1) (P e.0) (P e.1) (h e.0) (h e.1) (induced_mono P W U E h)
  where
    go : (a b s t : Bool) → (a ≡ true → s ≡ true) → (b ≡ true → t ≡ true) → cut U (induced W E) ≤ cut U (induced P E)
        → cut U (cond (a && b) (e ∷ induced W E) (induced W E)) ≤ cut U (cond (s && t) (e ∷ induced P E) (induced P E))
    go true true s t f g i = rw (f refl, g refl) (omega arith)
    go true false true true f g i = omega arith
    go true false true false f g i = i
    go true false false t f g i = i
    go false b true true f g i = omega arith
    go false b true false f g i = i
    go false b false t f g i = i

-- W falls into two parts: the edges between them are those of only W E that cross
pub induced_split : (W R : NodeSet) (E : List Edge) → cut (W ∩ R) E + cut (W ∖ R) E ≡ cut W E + 2 * cut R (induced W E)
induced_split W R [] = refl
induced_split W R (e ∷ E) = omega (arith, induced_split W R E, crosses_split (W e.0) (W e.1) (R e.0) (R e.1), go (W e.0) (W e.1))
  where
    go : (a b : Bool) → cut R (cond (a && b) (e ∷ induced W E) (induced W E)) ≡ crosses_inside a b (R e.0) (R e.1) + cut R (induced W E)
    go true true = refl
    go true false = omega arith
    go false b = omega arith
