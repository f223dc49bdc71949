-- `image::loading::load_window` meets its contract. Assumes nothing.
use Rattle.image.proofs.Runs.{load-runs}
use Rattle.image.proofs.loading.load_window.Goals as goal

pub returns : goal.returns
returns c =
    load-runs c.args.bytes.now c.args.window.now c.get_words.new.numbers c.fill.new.self c.args.count c.args.from c.requires.0 c.get_words.ensures (c.fill.ensures.after (λ y e. e))
