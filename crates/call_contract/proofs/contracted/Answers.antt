-- `contracted` meets its contract.
use native.Mathlib.Omega.{arith}
use Rattle.theory_contraction.proofs.Acceptance.{sound}
use Rattle.call_contract.proofs.ResultLaws.{can_fill, can_number, ends_fit, loadable, map_fits, names_fit, numbered_length}
use Rattle.call_contract.proofs.ResultLaws.{outcome_is, words_length}
use Rattle.call_contract.proofs.contracted.Goals as goal

pub load-d-requires : goal.load-d-requires
load-d-requires c =
    loadable _ (sound _ c.requires)

pub fill_map-requires : goal.fill_map-requires
fill_map-requires c =
    let s = sound _ c.requires in
    let p = c.load-d.ensures in
    let r = c.reduce-small.ensures in
    (omega (arith, words_length _ s p r, s.long.work_length), s.long.active_length, s.long.map_length, map_fits _ s p r)

pub fill_ends-requires : goal.fill_ends-requires
fill_ends-requires c =
    let s = sound _ c.requires in
    let p = c.load-d.ensures in
    let r = c.reduce-small.ensures in
    can_fill _ s p r _ _ (omega arith) s.long.out_from_length (λ i j. (ends_fit _ s p r i j).0)

pub fill_ends-requires-2 : goal.fill_ends-requires-2
fill_ends-requires-2 c =
    let s = sound _ c.requires in
    let p = c.load-d.ensures in
    let r = c.reduce-small.ensures in
    can_fill _ s p r _ _ (omega arith) s.long.out_to_length (λ i j. (ends_fit _ s p r i j).1)

pub fill_ends-requires-3 : goal.fill_ends-requires-3
fill_ends-requires-3 c =
    let s = sound _ c.requires in
    let p = c.load-d.ensures in
    let r = c.reduce-small.ensures in
    can_fill _ s p r _ _ (omega arith) s.long.out_names_length (names_fit _ s p r)

pub fill_pieces-requires : goal.fill_pieces-requires
fill_pieces-requires c =
    can_number _ (sound _ c.requires) c.load-d.ensures c.reduce-small.ensures

pub required-requires : goal.required-requires
required-requires c =
    let w = (sound _ c.requires).within in
    (omega (arith, w.nodes), omega (arith, w.edges))

pub clear-requires : goal.clear-requires
clear-requires c =
    let s = sound _ c.requires in
    let p = c.load-d.ensures in
    let r = c.reduce-small.ensures in
    let f = c.fill_pieces.ensures in
    omega (arith, c.required.ensures, numbered_length _ s p r f, s.long.work_length)

pub returns : goal.returns
returns c =
    let s = sound _ c.requires in
    let p = c.load-d.ensures in
    let r = c.reduce-small.ensures in
    let f = c.fill_pieces.ensures in
    outcome_is _ s p r f c.fill_map.ensures c.fill_ends.ensures c.fill_ends-2.ensures
    c.fill_ends-3.ensures c.required.ensures c.clear.ensures
