-- Laws of the name by the loss of roads, in order: the smallest of names that are the same but for order and number; the edges of different roads, where the
-- loss of a road is the removal of an entry; edges of the same roads with the same names, which have the same smallest name; and the reader's law: the name
-- over the open roads is by the loss of all open segments of each road in turn.
-- Assumes nothing.
use Prim.Native.Nat.{◌+◌, ℕ}
use mathlib.Core.Bool.{Bool, cond, false, not, true}
use mathlib.Core.List.Memᴰ
use mathlib.Core.List.{List, Memᴰ, [], ◌∷◌, map, map-map}
use mathlib.Core.Path.{◌∙◌, ◌≡◌, ap, ap₂, refl, subst, sym}
use lib.Dec.{eqb}
use native.Mathlib.Omega.{arith}
use borrow.Author.Tests.{not-true}
use Rattle.theory_graph.proofs.Booleans.{contradict, on_bool}
use Rattle.theory_graph.proofs.Lists.{filter_in, in_filter}
use Rattle.theory_graph.specs.Graph.{Edge, joined}
use Rattle.theory_graph.specs.Lists.{filter}
use Rattle.theory_names.proofs.Hangs.{least_in, least_low}
use Rattle.theory_names.proofs.NamedCuts.{in_plain, plain_in}
use Rattle.theory_names.specs.Names.{Entry, Named, hangs, least, loss_names, plain}
use Rattle.theory_timeline.proofs.RoadLaws.{Covers, cover_roads, covers_answer, covers_joined, covers_lose, different_answer, ends_sym}
use Rattle.theory_timeline.proofs.RoadLaws.{lose_other, lose_own, open_name, pick_mem, roads_cover, roads_different, same_road_lem}
use Rattle.theory_timeline.specs.Events.{SegmentSet, open_roads, pick}
use Rattle.theory_timeline.specs.Roads.{DifferentRoads, lose, road, road_name, same_ends, same_road}

-- ---- the smallest name
-- it is the same for names that are the same but for their order and number
least_same : (ns ms : List ℕ) → ((a : ℕ) → Memᴰ a ns → Memᴰ a ms) → ((a : ℕ) → Memᴰ a ms → Memᴰ a ns) → least ns ≡ least ms
least_same [] [] f b = refl
least_same [] (m ∷ ms) f b = absurd (elim (b m (Memᴰ.head refl)) [ ])
least_same (n ∷ ns) [] f b = absurd (elim (f n (Memᴰ.head refl)) [ ])
least_same (n ∷ ns) (m ∷ ms) f b = omega (arith, least_low (n ∷ ns) (b (least (m ∷ ms)) (least_in m ms)), least_low (m ∷ ms) (f (least (n ∷ ns)) (least_in n ns)))

-- ---- the names that it is taken of
-- the entries whose road's loss leaves a list that passes the test, and their names
abbrev road_losses : (List Edge → Bool) → Named → Entry → Bool
road_losses t G e = t (lose e.0 (plain G))

abbrev road_names : (List Edge → Bool) → Named → List ℕ
road_names t G = map (λ (e : Entry). e.1) (filter (road_losses t G) G)

-- the test: x and y are not joined
abbrev parted : ℕ → ℕ → List Edge → Bool
parted x y F = not (joined F x y)

-- ---- different roads: the loss of a road is the removal of an entry
filter_equal : (f k : Entry → Bool) (l : Named) → ((a : Entry) → Memᴰ a l → f a ≡ k a) → filter f l ≡ filter k l
filter_equal f k [] h = refl
filter_equal f k (a ∷ l) h = ap₂ (λ (b : Bool) (r : Named). cond b (a ∷ r) r) (h a (Memᴰ.head refl)) (filter_equal f k l (λ c m. h c (Memᴰ.tail m)))

different_names : (t : List Edge → Bool) (G : Named) → DifferentRoads (plain G) → loss_names t G ≡ road_names t G
different_names t [] h = refl
different_names t (e ∷ G) (a, h) =
    ap₂ (λ (b : Bool) (l : List ℕ). cond b (e.1 ∷ l) l) (sym (ap t (lose_own e.0 (plain G) a)))
    (different_names (λ F. t (e.0 ∷ F)) G h ∙ ap (map (λ (f : Entry). f.1)) others)
    ∙ out (road_losses t (e ∷ G) e) (filter (road_losses t (e ∷ G)) G)
  where
    others : filter (road_losses (λ F. t (e.0 ∷ F)) G) G ≡ filter (road_losses t (e ∷ G)) G
    others = filter_equal (road_losses (λ F. t (e.0 ∷ F)) G) (road_losses t (e ∷ G)) G (λ f m. sym (ap t (lose_other e.0 f.0 (plain G) a (plain_in m))))

    out : (b : Bool) (K : Named) → cond b (e.1 ∷ map (λ (f : Entry). f.1) K) (map (λ (f : Entry). f.1) K) ≡ map (λ (f : Entry). f.1) (cond b (e ∷ K) K)
    out true K = refl
    out false K = refl

pub different_name : (G : Named) → DifferentRoads (plain G) → (x y : ℕ) → hangs G x y ≡ road_name G x y
unfolding hangs road_name
different_name G h x y =
    ap₂ (λ (a : ℕ) (l : List ℕ). cond (eqb a 1) (least l) 65535) (sym (different_answer (plain G) h x y)) (different_names (parted x y) G h)

-- ---- edges of the same roads
-- an entry of G and one of H with the same ends have the same name
abbrev pub SameNames : Named → Named → Type 0
SameNames G H = (e f : Entry) → Memᴰ e G → Memᴰ f H → same_ends e.0 f.0 ≡ true → e.1 ≡ f.1

covers_names : (G H : Named) → Covers (plain G) (plain H) → Covers (plain H) (plain G) → SameNames G H → (x y n : ℕ)
    → Memᴰ n (road_names (parted x y) G) → Memᴰ n (road_names (parted x y) H)
covers_names G H c d s x y n m =
    let (e, k, p) = Memᴰ.of_map (λ (e : Entry). e.1) (filter (road_losses (parted x y) G) G) m in
    let (i, t) = filter_in (road_losses (parted x y) G) e G k in
    let (f, j, q) = c e.0 (plain_in i) in
    let (l, o) = in_plain H j in
    let back = covers_joined (lose f (plain H)) (lose e.0 (plain G)) (covers_lose (plain H) (plain G) d f e.0 (ends_sym e.0 f q)) x y in
    subst (λ (a : ℕ). Memᴰ a (road_names (parted x y) H)) (sym (s e (f, l) i o q) ∙ p)
    (Memᴰ.map (λ (e : Entry). e.1) (in_filter (road_losses (parted x y) H) (f, l) H o (on_bool (joined (lose f (plain H)) x y)
    (λ u. contradict (back u) (not-true (joined (lose e.0 (plain G)) x y) t))
    (λ u. ap not u))))

pub covers_name : (G H : Named) → Covers (plain G) (plain H) → Covers (plain H) (plain G) → SameNames G H → (x y : ℕ) → road_name G x y ≡ road_name H x y
unfolding road_name
covers_name G H c d s x y =
    ap₂ (λ (a n : ℕ). cond (eqb a 1) n 65535) (covers_answer (plain G) (plain H) c d x y)
    (least_same (road_names (parted x y) G) (road_names (parted x y) H) (covers_names G H c d s x y) (covers_names H G d c (λ e f m n q. sym (s f e n m (ends_sym e.0 f.0 q))) x y))

-- ---- the reader's law
module _ (segs : List Edge) (o : SegmentSet) where
  -- the open roads, and the open segments with the names of their roads
  abbrev roads : Named
  roads = pick (open_roads segs o) 0 segs

  abbrev segments : Named
  segments = map (λ (e : Entry). (e.0, road segs e.1)) (pick o 0 segs)

  segments_plain : plain (pick o 0 segs) ≡ plain segments
  segments_plain = sym (map-map (λ (e : Entry). e.0) (λ (e : Entry). (e.0, road segs e.1)) (pick o 0 segs))

  -- an open road has the name of the road of each open segment with its ends
  roads_same : SameNames roads segments
  roads_same e f m n q =
      let (r, l, h, p) = pick_mem (open_roads segs o) 0 segs e m in
      let (d, k, i) = Memᴰ.of_map (λ (e : Entry). (e.0, road segs e.1)) (pick o 0 segs) n in
      let (s, j, u, w) = pick_mem o 0 segs d k in
      let z : 0 + r ≡ r = omega arith in
      let y : 0 + s ≡ s = omega arith in
      let same : same_road segs r s ≡ true = sym (ap₂ same_ends (ap (λ (e : Entry). e.0) p) (sym (ap (λ (e : Entry). e.0) i) ∙ ap (λ (e : Entry). e.0) w)) ∙ q in
      ap (λ (e : Entry). e.1) p
      ∙ sym (open_name segs o (0 + r) h).0
      ∙ ap (road segs) z
      ∙ same_road_lem segs r s same
      ∙ ap (road segs) (sym y ∙ sym (ap (λ (e : Entry). e.1) w))
      ∙ ap (λ (e : Entry). e.1) i

  -- the name over the open roads, one edge each with its name: the smallest name of a road of open segments whose loss, that of all its open segments, parts
  -- the two
  pub roads_name : (x y : ℕ) → hangs (pick (open_roads segs o) 0 segs) x y ≡ road_name (map (λ (e : Entry). (e.0, road segs e.1)) (pick o 0 segs)) x y
  roads_name x y =
      different_name roads (roads_different segs o) x y
      ∙ covers_name roads segments (subst (Covers (plain roads)) segments_plain (roads_cover segs o))
      (subst (λ (E : List Edge). Covers E (plain roads)) segments_plain (cover_roads segs o)) roads_same x y
