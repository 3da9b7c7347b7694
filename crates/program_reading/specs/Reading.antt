-- What reading the input gives. Assumes nothing: these are definitions.
use Rattle.std.specs.Prelude.{◌*◌, ◌≤◌, ℕ, Bool, false, true, Err, List, Ok, Result, ◌≡◌, eqb, length}
use Rattle.program_reading.specs.declared.Header.{Header}
use Rattle.call_sizes.specs.Numbers.{number_of, place_of}
use Rattle.call_sizes.specs.Refusal.{Refusal}
use Rattle.call_sizes.specs.declared.Refusal as declared
use Rattle.call_sizes.specs.Sizes.{if_accepted}
use Rattle.theory_timeline.specs.Program.{events_of, input_fault, input_length, junctions_of, segments_of, share_of, words16}

-- the refusal's number and place, and the sizes and the share where there is none
pub record HeaderOutcome : Type 0 where
  pub accepted : Bool
  pub code : ℕ
  pub place : ℕ
  pub n : ℕ
  pub m : ℕ
  pub t : ℕ
  pub p : ℕ

-- what each case of the reply says
abbrev pub header_outcome : Result Header declared.Refusal → HeaderOutcome
header_outcome (Ok h) = record { accepted = true; code = 0; place = 0; n = h.n; m = h.m; t = h.t; p = h.p }
header_outcome (Err r) = record { accepted = false; code = number_of r; place = place_of r; n = 0; m = 0; t = 0; p = 0 }

-- the outcome that an input must have
abbrev pub check_input : List ℕ → HeaderOutcome
check_input bytes =
    let ws : List ℕ = words16 bytes in
    let f : Refusal = input_fault bytes in
    record {
      accepted = eqb f.0 0;
      code = f.0;
      place = f.1;
      n = if_accepted f (junctions_of ws);
      m = if_accepted f (segments_of ws);
      t = if_accepted f (events_of ws);
      p = if_accepted f (share_of ws);
    }

-- the input is as long as its sizes n, m and t say, which are within the program's limits
pub record Read (n m t : ℕ) (bytes : List ℕ) : Type 0 where
  pub junctions : n ≡ junctions_of (words16 bytes)
  pub segments : m ≡ segments_of (words16 bytes)
  pub events : t ≡ events_of (words16 bytes)
  pub few_segments : m ≤ 64
  pub few_events : t ≤ 32
  pub long : length bytes ≡ 2 * input_length m t
