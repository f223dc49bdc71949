-- A choice between a refusal and the rest that is an acceptance: its test did not refuse, and the rest is one. Assumes nothing.
use mathlib.Core.Path.{◌≡◌, refl}
use mathlib.Core.Bool.{Bool, true, false, not}
use Rattle.laws.specs.Base.{pick}
use Rattle.laws.proofs.Tests.{by-test, never}
use Rattle.pricing.specs.Verdict.{Verdict}
use Rattle.book.specs.Record.{is_accepted}

pub passes : (t : Bool) (r v : Verdict) → is_accepted r ≡ false → is_accepted (pick t r v) ≡ true → (t ≡ false) × (is_accepted v ≡ true)
passes true r v z e = never (is_accepted r) e z
passes false r v z e = (refl, e)

-- the same of a test that must hold
pub passes-not : (t : Bool) (r v : Verdict) → is_accepted r ≡ false → is_accepted (pick (not t) r v) ≡ true → (t ≡ true) × (is_accepted v ≡ true)
passes-not true r v z e = (refl, e)
passes-not false r v z e = never (is_accepted r) e z

-- the same of a verdict, which stands where it refuses
pub passes-verdict : (r v : Verdict) → is_accepted (pick (not (is_accepted r)) r v) ≡ true → (is_accepted r ≡ true) × (is_accepted v ≡ true)
passes-verdict r v e = by-test (is_accepted r) (λ t. (t, rw t at e)) (λ t. never (is_accepted r) (rw t at e) t)
