-- What a struct says that was written from a refusal is what the refusal says: of the sizes' check, then of the check number. A refusal's number is not 0, so
-- that the code 0 is the one of accepted calls alone.
-- Assumes nothing.
use Rattle.std.proofs.Common.{◌≡◌, refl}
use Rattle.std.specs.Prelude.{Err}
use Rattle.call_check_number.specs.CheckNumber.{check_number_outcome}
use Rattle.call_sizes.proofs.RefusalLaws.{number_refuses}
use Rattle.call_sizes.specs.Numbers.{number_of, place_of}
use Rattle.call_sizes.specs.Sizes.{sizes_outcome}
use Rattle.call_sizes.specs.declared.Refusal.{Refusal}
use Rattle.call_replies.specs.Replies.{check_number_of, sizes_of}

pub sizes_refused : (r : Refusal) → sizes_of record { code = number_of r; place = place_of r; n = 0; m = 0; t = 0; k = 0 } ≡ sizes_outcome (Err r)
sizes_refused r = rw (number_refuses r) refl

pub number_refused : (r : Refusal) → check_number_of record { code = number_of r; place = place_of r; number = 0 } ≡ check_number_outcome (Err r)
number_refused r = rw (number_refuses r) refl
