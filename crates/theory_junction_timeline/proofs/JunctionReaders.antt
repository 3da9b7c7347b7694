-- What a reader of document 02, No. 8, expects: the byte of a query straight from the open segments, with no list of roads in sight; the loss of a junction takes
-- all open segments that meet it.
-- Assumes nothing.
use Prim.Native.Nat.{◌+◌, ◌<◌, ◌≤◌, suc, ℕ}
use mathlib.Core.Bool.{Bool, ◌&&◌, cond, false, not, true}
use mathlib.Core.List.{List, Memᴰ, [], ◌∷◌}
use mathlib.Core.Logic.{inl, inr}
use mathlib.Core.Path.{◌∙◌, ◌≡◌, ap, ap₂, refl, subst, sym}
use lib.Dec.{eqb}
use lib.ListN.{get_or, length}
use native.Mathlib.Omega.{arith}
use borrow.Author.Tests.{eqb-true}
use Rattle.theory_graph.proofs.Booleans.{and_elim, contradict, on_bool, or_elim}
use Rattle.theory_graph.specs.Graph.{Edge, joined}
use Rattle.theory_names.specs.Names.{plain}
use Rattle.theory_junctions.proofs.Replies.{reply_least, reply_one, reply_two, reply_zero}
use Rattle.theory_junctions.proofs.SameColourings.{Covers, reply_same, same_edges}
use Rattle.theory_junctions.specs.Reply.{losing, reply}
use Rattle.theory_timeline.proofs.RoadLaws.{cover_roads, roads_cover}
use Rattle.theory_timeline.proofs.RoadLaws as Roads
use Rattle.theory_timeline.specs.Events.{SegmentSet, pick}
use Rattle.theory_timeline.specs.Windows.{Timeline, asks_at, edges_of, event, open_before, open_graph}
use Rattle.theory_junction_timeline.proofs.JunctionNetworks.{change_byte}
use Rattle.theory_junction_timeline.specs.JunctionDemand.{IsJunctionByte}
use Rattle.theory_junction_timeline.specs.JunctionReplay.{junction_byte, sparing}

-- ---- roads and segments
roads_covers : (E F : List Edge) → Roads.Covers E F → Covers F E
roads_covers E F c p q m n =
    let (f, k, h) = c (p, q) m in
    or_elim (eqb p f.0 && eqb q f.1) (eqb p f.1 && eqb q f.0) h
    (λ t. and_elim (eqb p f.0) (eqb q f.1) t λ a b. inl (subst (λ (e : Edge). Memᴰ e F) (sym (ap₂ (λ (x y : ℕ). (x, y)) (eqb-true p f.0 a) (eqb-true q f.1 b))) k))
    (λ t. and_elim (eqb p f.1) (eqb q f.0) t λ a b. inr (subst (λ (e : Edge). Memᴰ e F) (sym (ap₂ (λ (x y : ℕ). (x, y)) (eqb-true q f.0 b) (eqb-true p f.1 a))) k))

-- the reply over the open roads, one edge each, is the one over the open segments
pub roads_reply : (g : Timeline) (i x y : ℕ) → reply (plain (open_graph g i)) x y ≡ reply (plain (edges_of g (open_before g i))) x y
roads_reply g i x y =
    let E = plain (open_graph g i) in
    let F = plain (edges_of g (open_before g i)) in
    reply_same (λ v. true) E (λ k. k) F (λ k. k)
    (same_edges (λ v. true) (λ k. k) E F (roads_covers E F (roads_cover g.segments (open_before g i))) (roads_covers F E (cover_roads g.segments (open_before g i))))
    x y refl refl

-- the byte straight from the segments
pub byte_segments : (g : Timeline) (i : ℕ) → junction_byte g i ≡ cond (asks_at g i) (reply (plain (edges_of g (open_before g i))) (event g i).0 (event g i).1) 3
unfolding junction_byte
byte_segments g i = ap (λ (a : ℕ). cond (asks_at g i) a 3) (roads_reply g i (event g i).0 (event g i).1)

-- ---- what the loss of a junction leaves
losing_pick : (c : ℕ) (o : SegmentSet) (f : ℕ → Edge) (i : ℕ) (es : List Edge) → ((k : ℕ) → k < length es → get_or es k (0, 0) ≡ f (i + k))
    → losing c (plain (pick o i es)) ≡ plain (pick (λ s. o s && (not (eqb (f s).0 c) && not (eqb (f s).1 c))) i es)
losing_pick c o f i [] h = refl
losing_pick c o f i (e ∷ es) h =
    let z : i + 0 ≡ i = omega arith in
    let at : e ≡ f i = h 0 (omega arith) ∙ ap f z in
    go (o i) (not (eqb e.0 c) && not (eqb e.1 c)) refl (ap (λ (e : Edge). not (eqb e.0 c) && not (eqb e.1 c)) (sym at))
    (losing_pick c o f (suc i) es (λ k l. let y : i + suc k ≡ suc i + k = omega arith in h (suc k) (omega arith) ∙ ap f y))
  where
    spared : SegmentSet
    spared s = o s && (not (eqb (f s).0 c) && not (eqb (f s).1 c))

    go : (a b : Bool) → (not (eqb e.0 c) && not (eqb e.1 c)) ≡ b → (not (eqb (f i).0 c) && not (eqb (f i).1 c)) ≡ b
        → losing c (plain (pick o (suc i) es)) ≡ plain (pick spared (suc i) es)
        → losing c (plain (cond a ((e, i) ∷ pick o (suc i) es) (pick o (suc i) es)))
        ≡ plain (cond (a && (not (eqb (f i).0 c) && not (eqb (f i).1 c))) ((e, i) ∷ pick spared (suc i) es) (pick spared (suc i) es))
    go false b p q ih = ih
    go true b p q ih =
        ap₂ (λ (t : Bool) (l : List Edge). cond t (e ∷ l) l) p ih ∙ put b ∙ sym (ap (λ (t : Bool). plain (cond t ((e, i) ∷ pick spared (suc i) es) (pick spared (suc i) es))) q)
      where
        put : (b : Bool) → cond b (e ∷ plain (pick spared (suc i) es)) (plain (pick spared (suc i) es)) ≡ plain (cond b ((e, i) ∷ pick spared (suc i) es) (pick spared (suc i) es))
        put true = refl
        put false = refl

-- the open segments that do not meet the lost junction
pub losing_segments : (g : Timeline) (c : ℕ) (o : SegmentSet) → losing c (plain (edges_of g o)) ≡ plain (edges_of g (sparing g c o))
unfolding sparing
losing_segments g c o = losing_pick c o (λ s. get_or g.segments s (0, 0)) 0 g.segments (λ k l. let z : k ≡ 0 + k = omega arith in ap (λ (n : ℕ). get_or g.segments n (0, 0)) z)

-- ---- the byte in the words of document 02
module _ (g : Timeline) (i : ℕ) where
  abbrev x : ℕ
  x = (event g i).0

  abbrev y : ℕ
  y = (event g i).1

  abbrev E : List Edge
  E = plain (edges_of g (open_before g i))

  lost : (c : ℕ) → joined (losing c E) x y ≡ joined (plain (edges_of g (sparing g c (open_before g i)))) x y
  lost c = ap (λ (F : List Edge). joined F x y) (losing_segments g c (open_before g i))

  byte_reply : asks_at g i ≡ true → junction_byte g i ≡ reply E x y
  byte_reply a = byte_segments g i ∙ ap (λ (b : Bool). cond b (reply E x y) 3) a

  pub byte_is : IsJunctionByte g i (junction_byte g i)
  byte_is = record {
    change = λ a. change_byte g i a;
    zero = λ a. (
      λ e h. contradict h ((reply_zero E x y).0 (sym (byte_reply a) ∙ e)),
      λ n. byte_reply a ∙ (reply_zero E x y).1 (on_bool (joined E x y) (λ t. absurd (n t)) (λ t. t)),
    );
    one = λ a. (
      λ e. let (j, (c, nx, ny, p)) = (reply_one E x y).0 (sym (byte_reply a) ∙ e) in (j, (c, (nx, ny), sym (lost c) ∙ p)),
      λ (j, (c, (nx, ny), p)). byte_reply a ∙ (reply_one E x y).1 (j, (c, nx, ny, lost c ∙ p)),
    );
    two = λ a. (
      λ e. let (j, f) = (reply_two E x y).0 (sym (byte_reply a) ∙ e) in (j, λ c (nx, ny) p. contradict (f c nx ny) (lost c ∙ p)),
      λ (j, f). byte_reply a ∙ (reply_two E x y).1 (j, λ c nx ny. on_bool (joined (losing c E) x y) (λ t. t) (λ t. absurd (f c (nx, ny) (sym (lost c) ∙ t)))),
    );
    some = λ a. subst (λ (b : ℕ). b ≤ 2) (sym (byte_reply a)) (reply_least E x y).0;
  }
