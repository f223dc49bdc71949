-- `counting::windows::counts_after` meets its contract. Assumes nothing.
use mathlib.Core.Path.{◌≡◌}
use borrow.Author.Rules.{rules}
use lib.ListN.{length}
use Rattle.counting.specs.Windows.{grown}
use Rattle.counting.proofs.Moves.{moved_all}
use Rattle.counting.proofs.windows.counts_after.Goals as goal

pub returns : goal.returns
returns c =
    let a = c.args in
    let n : length c.stepped.result ≡ 8 = search rules in
    moved_all a.regions a.marked.now (grown a.window) a.counts c.stepped.result n (λ r h. search (rules, c.stepped.ensures.moved r h)) (λ r h. c.stepped.ensures.stays r h)
