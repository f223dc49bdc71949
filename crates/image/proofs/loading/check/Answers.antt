-- `image::loading::check` meets its contract. Assumes nothing.
use mathlib.Core.Path.{ap, ◌∙◌}
use Rattle.pricing.specs.Verdict.{Verdict}
use Rattle.image.proofs.Ways.{check-says}
use Rattle.image.proofs.loading.check.Goals as goal

pub returns : goal.returns
returns c = c.number_in.ensures ∙ ap (λ (v : Verdict). v.number) c.check_verdict.ensures ∙ check-says _
