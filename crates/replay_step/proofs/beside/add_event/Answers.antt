-- `beside::add_event` meets its contract: an event that adds nothing leaves the words, any other stores one edge with its key as the name.
use mathlib.Core.Path.{◌∙◌, sym}
use native.Mathlib.Omega.{arith}
use Rattle.replay_step.proofs.BesideLaws.{add_put, adds_tag}
use Rattle.replay_step.proofs.beside.add_event.Goals as goal

pub key-requires : goal.key-requires
key-requires c =
    omega (arith, c.word.ensures.0, adds_tag c.requires (sym c.event_adds-adds.ensures ∙ c.if-not-adds.false))

pub returns : goal.returns
returns c =
    add_put c.requires (sym c.event_adds-adds.ensures ∙ c.if-not-adds.false) _ _ _ c.word-a.ensures.0
    c.word-b.ensures.0 c.word.ensures.0 _ (rw c.key.ensures at c.put_edge.ensures)
