-- `image::storing::put_window` meets its contract. Assumes nothing.
use Rattle.image.proofs.Runs.{put-runs}
use Rattle.image.proofs.storing.put_window.Goals as goal

pub returns : goal.returns
returns c = rw (c.put_words-2.ensures, c.put_words.ensures) (put-runs _ _ _ _ c.in_order.ensures.prices c.args.buffer.now c.args.at)
