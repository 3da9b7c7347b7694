-- Demand 3 on document 01's example, the triangle of three segments, with the shares 8 and 12: its hypotheses are met there, and its parts say what they
-- should.
-- Assumes nothing.
use mathlib.Core.Bool.{false, true}
use mathlib.Core.List.{List, Memᴰ, [], ◌++◌, ◌∷◌}
use Rattle.std.specs.Prelude.{Ok}
use mathlib.Core.Path.{◌∙◌, ◌≡◌, ap, refl, subst, sym}
use lib.ListN.{replicate}
use native.Mathlib.Omega.{arith}
use Rattle.theory_graph.specs.Contraction.{contract, kept, kept_classes, linked, number, parts, third, without}
use Rattle.theory_graph.specs.Graph.{Edge, answer, joined, removals, rep, two_edge}
use Rattle.theory_graph.specs.Lists.{over}
use Rattle.theory_graph.specs.SmallGraph.{image}
use Rattle.theory_names.specs.Names.{class_node, contract_named, hangs, plain}
use Rattle.theory_timeline.proofs.DemandThree.{demand_3, demand_3_of_calls}
use Rattle.theory_timeline.specs.DemandThree.{Among, Call, Demand3, Promised, outcome_of}
use Rattle.theory_timeline.specs.Events.{active_of, network_of, open_roads}
use Rattle.theory_timeline.specs.Roads.{Apart, road, road_answer, same_ends}
use Rattle.theory_timeline.specs.Replay.{Lent, given, replay}
use Rattle.theory_timeline.specs.Windows.{active, network, small, stands, windows}
use Rattle.call_kinds.specs.Kinds as K
use Rattle.theory_timeline.specs.Windows as W
use Rattle.theory_timeline.specs.Replay as R

abbrev pub triangle : Lent
triangle = record {
  n = 3;
  m = 3;
  t = 5;
  a = 0 ∷ 1 ∷ 2 ∷ [];
  b = 1 ∷ 2 ∷ 0 ∷ [];
  start = 0 ∷ 0 ∷ 0 ∷ [];
  x = 65535 ∷ 65535 ∷ 0 ∷ 65535 ∷ 0 ∷ [];
  y = 0 ∷ 1 ∷ 2 ∷ 2 ∷ 2 ∷ [];
  answers = replicate 5 9;
  names = replicate 6 9;
  work = replicate 4096 7;
}

abbrev both : Demand3 triangle triangle 8 12 (replay triangle 8) (replay triangle 12)
both = demand_3 triangle triangle 8 12 (omega arith, omega arith) (omega arith, omega arith) (replay triangle 8) (replay triangle 12) refl refl

accepted : (replay triangle 8).accepted ≡ true
unfolding K.is_query K.is_opening K.is_closing K.kind_of rep joined removals two_edge answer without parts kept third linked kept_classes number contract active_of road open_roads network_of W.open_before W.windows_from W.windows
    W.during W.network W.active W.small W.small_named W.stands W.kept hangs class_node contract_named R.byte R.bytes R.name_at R.names_at R.queries R.open_at_end R.given R.event_fault R.fault_at R.list_faults R.faults R.fault R.done R.refused R.replay
accepted = refl

-- events 2 to 4 are a window: with the share 8 the second part of the whole list
window : Memᴰ (2, 3) (windows 8 5)
unfolding W.windows W.windows_from
window = Memᴰ.tail (Memᴰ.tail (Memᴰ.tail (Memᴰ.tail (Memᴰ.head refl))))

-- the network of this window has the roads 0-1 and 1-2
roads : plain (network (given triangle) (2, 3)) ≡ (0, 1) ∷ (1, 2) ∷ []
unfolding K.is_opening K.is_closing K.kind_of road open_roads network_of W.open_before W.during W.network R.given
roads = refl

fresh : (e : Edge) → Memᴰ e (plain (network (given triangle) (2, 3))) → Apart e ((2, 0) ∷ [])
fresh e m f (Memᴰ.tail x4) = elim x4 [ ]
fresh e m f (Memᴰ.head q) = ap (same_ends e) q ∙ of (subst (λ (E : List Edge). Memᴰ e E) roads m)
  where
    of : Memᴰ e ((0, 1) ∷ (1, 2) ∷ []) → same_ends e (2, 0) ≡ false
    of (Memᴰ.head p) = ap (λ e. same_ends e (2, 0)) p
    of (Memᴰ.tail (Memᴰ.tail x10)) = elim x10 [ ]
    of (Memᴰ.tail (Memᴰ.head p)) = ap (λ e. same_ends e (2, 0)) p

-- the road 2-0, which this network does not have, makes the same answers in the network and in the small graph
pub example : road_answer (plain (network (given triangle) (2, 3)) ++ (2, 0) ∷ []) 0 2
    ≡ answer ((small (given triangle) (2, 3)).edges ++ image (stands (given triangle) (2, 3)) ((2, 0) ∷ [])) (stands (given triangle) (2, 3) 0) (stands (given triangle) (2, 3) 2)
unfolding K.is_query K.is_opening K.is_closing K.kind_of W.active W.during R.given active_of
example =
    (both.faithful accepted (2, 3) window).answers ((2, 0) ∷ []) among (record { different = (λ f m. absurd (elim m [ ]), tt); fresh = fresh }) 0 2
    (Memᴰ.head refl) (Memᴰ.tail (Memᴰ.head refl))
  where
    pair : Memᴰ 2 (active (given triangle) (2, 3)) × Memᴰ 0 (active (given triangle) (2, 3))
    pair = (Memᴰ.tail (Memᴰ.head refl), Memᴰ.head refl)

    among : Among (active (given triangle) (2, 3)) ((2, 0) ∷ [])
    among e (Memᴰ.tail x4) = elim x4 [ ]
    among e (Memᴰ.head p) = subst (λ (e : Edge). Memᴰ e.0 (active (given triangle) (2, 3)) × Memᴰ e.1 (active (given triangle) (2, 3))) (sym p) pair

-- why a pair is not repeated: two carriageways are one road, whose loss parts its ends; two edges of a small graph with the same ends are two roads
pub repeated : (road_answer ((0, 1) ∷ (1, 0) ∷ []) 0 1 ≡ 1) × (answer ((0, 1) ∷ (1, 0) ∷ []) 0 1 ≡ 2)
unfolding road_answer rep joined removals two_edge answer
repeated = (refl, refl)

-- with the share 12 it is accepted too, and the tables hold the same afterwards
pub example_shares : ((replay triangle 12).accepted ≡ true) × ((replay triangle 8).answers ≡ (replay triangle 12).answers)
    × ((replay triangle 8).names ≡ (replay triangle 12).names) × ((replay triangle 8).work ≡ (replay triangle 12).work)
example_shares = let t = both.tables refl in (t.0.0 accepted, (t.1 accepted).0, (t.1 accepted).1, (t.1 accepted).2)

-- ---- the same of two calls: what `replay` replied to the triangle, with both shares
abbrev eight : Call
eight = record {
  share = 8;
  lends = triangle;
  reply = Ok (record { queries = 2; «open» = 3; kept = 19 });
  answers = 3 ∷ 3 ∷ 1 ∷ 3 ∷ 2 ∷ [];
  names = 65535 ∷ 65535 ∷ 0 ∷ 65535 ∷ 65535 ∷ 9 ∷ [];
  work = over (replicate 3448 0) (replicate 4096 7);
}

abbrev twelve : Call
twelve = record {
  share = 12;
  lends = triangle;
  reply = Ok (record { queries = 2; «open» = 3; kept = 20 });
  answers = 3 ∷ 3 ∷ 1 ∷ 3 ∷ 2 ∷ [];
  names = 65535 ∷ 65535 ∷ 0 ∷ 65535 ∷ 65535 ∷ 9 ∷ [];
  work = over (replicate 3448 0) (replicate 4096 7);
}

eight_promised : Promised eight
unfolding K.is_query K.is_opening K.is_closing K.kind_of rep joined removals two_edge answer without parts kept third linked kept_classes number contract active_of road open_roads network_of W.open_before W.windows_from W.windows
    W.during W.network W.active W.small W.small_named W.stands W.kept hangs class_node contract_named R.byte R.bytes R.name_at R.names_at R.queries R.open_at_end R.given R.event_fault R.fault_at R.list_faults R.faults R.fault R.done R.refused R.replay
eight_promised = refl

twelve_promised : Promised twelve
unfolding K.is_query K.is_opening K.is_closing K.kind_of rep joined removals two_edge answer without parts kept third linked kept_classes number contract active_of road open_roads network_of W.open_before W.windows_from W.windows
    W.during W.network W.active W.small W.small_named W.stands W.kept hangs class_node contract_named R.byte R.bytes R.name_at R.names_at R.queries R.open_at_end R.given R.event_fault R.fault_at R.list_faults R.faults R.fault R.done R.refused R.replay
twelve_promised = refl

pub example_calls : Demand3 triangle triangle 8 12 (outcome_of eight) (outcome_of twelve)
example_calls = demand_3_of_calls eight twelve (omega arith, omega arith) (omega arith, omega arith) eight_promised twelve_promised
