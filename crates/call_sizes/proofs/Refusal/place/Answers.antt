-- The place that is named. Rattle would find this by itself; it stands here so that a wrong place is refused as such.
-- Assumes nothing.
use Rattle.std.proofs.Common.{◌≡◌, ℕ, ap, sym}
use mathlib.Core.Logic.{◌⊎◌, inl, inr}
use Rattle.call_sizes.specs.Numbers.{place_of}
use Rattle.call_sizes.specs.declared.Refusal.{Refusal}
use Rattle.call_sizes.specs.declared.Refusal.TheVariants.{ClosesClosed, End, Entry, NamesNothing, OpensOpen, Start}
use Rattle.call_sizes.proofs.Refusal.place.Goals as goal

named : (r : Refusal) (i : ℕ) → (r ≡ End i) ⊎ ((r ≡ NamesNothing i) ⊎ ((r ≡ OpensOpen i) ⊎ ((r ≡ ClosesClosed i) ⊎ ((r ≡ Entry i) ⊎ (r ≡ Start i))))) → i ≡ place_of r
named r i (inl e) = sym (ap place_of e)
named r i (inr (inl e)) = sym (ap place_of e)
named r i (inr (inr (inl e))) = sym (ap place_of e)
named r i (inr (inr (inr (inl e)))) = sym (ap place_of e)
named r i (inr (inr (inr (inr (inl e))))) = sym (ap place_of e)
named r i (inr (inr (inr (inr (inr e))))) = sym (ap place_of e)

pub returns-in-End : goal.returns-in-End
returns-in-End c = named c.args.self c.in-End.place c.in-End.is
