-- `lum_replay` meets its contract: it hands the fields of the struct that it is lent on to `replay_tables`, in their order. The law `lent_call` says of every such
-- function that it meets its contract where the other meets its own. Here stand the kinds of the fields, in their order, that the clauses of `replay_tables` at the
-- fields are by computation those of `lum_replay`, and that the code is of the law's form. A new field is a new entry of `kinds`.
-- Assumes nothing.
use mathlib.Core.List.{List, [], ◌∷◌}
use mathlib.Core.Path.{refl}
use mir.Syntax.{w16, w32, w64, w8}
use base.Logic.{id⊢}
use denote.Signature.{named_lft}
use Rattle.call_exports.specs.declared.LumReplayLent.{LumReplayLent}
use Rattle.call_exports.proofs.LentCall.{lent_call}
use Rattle.call_exports.proofs.LentFields.{FieldKind, number, read, written}
use Rattle.call_exports.specs.contracts.LumReplayLent as lent
use Rattle.call_exports.specs.contracts.LumReplayReply as reply
use Rattle.call_exports.proofs.LumReplayReply.TheLaws as reply_laws
use Rattle.call_exports.specs.contracts.replay_tables as callee
use Rattle.call_exports.proofs.replay_tables.Symbol.{name as #callee}
use Rattle.call_exports.proofs.replay_tables.Met as callee_met
use Rattle.call_exports.specs.contracts.lum_replay as caller
use Rattle.call_exports.specs.contracts.lum_replay.Key.{name as #caller}
use Rattle.call_exports.proofs.lum_replay.Statement.{statement}
use Rattle.call_exports.proofs.lum_replay.Code as code

abbrev kinds : List FieldKind
kinds =
    number w64 ∷ number w64 ∷ number w64 ∷ number w64 ∷ read w16 ∷ read w16 ∷ read w16 ∷ read w16 ∷ read w16 ∷
    written w8 ∷ written w16 ∷ written w32 ∷ []

pub lum_replay_spec : {M : Type 1} → statement M
lum_replay_spec 𝓤 𝓛 𝓜 𝓡 w =
    lent_call kinds (lent.struct (named_lft 1 0 tt ([], tt))).name LumReplayLent (λ κs. (lent.the_type (named_lft 1 0 tt κs)).to)
    (λ κs. (lent.the_type (named_lft 1 0 tt κs)).to_one) reply.the_type reply_laws.the_laws 𝓛 𝓜 𝓡
    (caller.clauses 𝓛 𝓜.mem 𝓡.returns) (callee.clauses 𝓛 𝓜.mem 𝓡.returns)
    (record { ghosts = λ κs d g. g; asks = λ κs d g. id⊢ 𝓤 _; says = λ κs d g r zs. id⊢ 𝓤 _ })
    𝓡.env #caller code.function (code.unfolded 𝓤 𝓛.H 𝓜 𝓡 w) #callee (λ κs. refl) (𝓡.env #callee) refl
    (callee_met.met 𝓤 𝓛 𝓜 𝓡 (code.calls-call_exports::replay_tables 𝓡.env w))
