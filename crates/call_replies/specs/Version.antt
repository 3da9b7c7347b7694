-- The version of the exported calls. It goes up by one whenever a call is added, or the tables or the numbers that one takes or returns change,
-- or what they mean, and with it LUM_VERSION in bindings/c/lumzhasel.h and VERSION in bindings/rust. docs/integrate.md says what each version brought.
use Rattle.std.specs.Prelude.{ℕ}

abbrev pub version : ℕ
version = 10
