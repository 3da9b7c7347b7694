-- What the structs of the small calls say, as outcomes in the words of the calls' own definitions: a call is accepted if the code is 0.
-- Assumes nothing: these are definitions.
use Rattle.std.specs.Prelude.{eqb}
use Rattle.call_check_number.specs.CheckNumber.{CheckNumberOutcome}
use Rattle.call_sizes.specs.Sizes.{SizesOutcome}
use Rattle.call_replies.specs.declared.LumCheckNumberReply.{LumCheckNumberReply}
use Rattle.call_replies.specs.declared.LumSizesReply.{LumSizesReply}

abbrev pub sizes_of : LumSizesReply → SizesOutcome
sizes_of r = record { accepted = eqb r.code 0; code = r.code; place = r.place; n = r.n; m = r.m; t = r.t; k = r.k }

abbrev pub check_number_of : LumCheckNumberReply → CheckNumberOutcome
check_number_of r = record { accepted = eqb r.code 0; code = r.code; place = r.place; number = r.number }
