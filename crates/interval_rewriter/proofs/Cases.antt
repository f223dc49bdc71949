-- Worked cases of the rewriter, computed: a book of two regions without services. Assumes nothing.
use mathlib.Core.Path.{◌≡◌, refl}
use mathlib.Core.List.{List, [], ◌∷◌, ◌++◌}
use Prim.Native.Nat.{ℕ}
use lib.ListN.{replicate, take}
use Rattle.laws.specs.Lists.{run, joined, any_below, all_below, first_below}
use Rattle.laws.specs.Bytes.{number, number_at}
use Rattle.pricing.specs.Verdict.{accepted, refused}
use Rattle.book.specs.Validity.{valid}
use Rattle.interval_records.specs.Record.{whole, due_verdict, link_verdict, head_verdict, first_refusal}
use Rattle.interval_writer.proofs.Cases.{two, head, first, second, upward, said, lent}
use Rattle.interval_rewriter.specs.AnyOrder.{region_verdict, records_verdict}
use Rattle.interval_rewriter.specs.Earlier.{earlier_verdict, read_earlier}
use Rattle.interval_rewriter.specs.Rewriting.{Outcome, rewrite_verdict, reordered, rewrite_interval}

-- the records of regions 0 and 1 exchanged
abbrev exchanged : List ℕ
exchanged = head 2 ++ (second ++ first)

-- what the earlier reader made of it
earlier-exchanged : read_earlier two exchanged 0 lent ≡ record { verdict = accepted; next = 52; book = two; interval = said }
unfolding read_earlier earlier_verdict valid all_below records_verdict head_verdict due_verdict link_verdict whole region_verdict first_refusal any_below first_below number_at number run
earlier-exchanged = refl

-- from the first byte on, into 55 bytes
abbrev rewrites : List ℕ → Outcome
rewrites bytes = rewrite_interval two bytes 0 (replicate 55 7)

abbrev refusal : ℕ → Outcome
refusal n = record { verdict = refused n; next = 0; book = two; buffer = replicate 55 7 }

rewrites-exchanged : rewrites exchanged ≡ record { verdict = accepted; next = 52; book = two; buffer = upward ++ (7 ∷ 7 ∷ 7 ∷ []) }
unfolding rewrite_interval rewrite_verdict reordered valid all_below records_verdict head_verdict due_verdict link_verdict whole region_verdict first_refusal any_below first_below number_at number joined
rewrites-exchanged = refl

-- cut by a byte; a head with another total; region 0 twice; a buffer one short, of rubbish
cut-40 : rewrites (take 51 exchanged) ≡ refusal 40
unfolding rewrite_interval rewrite_verdict valid all_below records_verdict head_verdict due_verdict link_verdict whole region_verdict first_refusal any_below number_at number
cut-40 = refl

total-41 : rewrites (head 1) ≡ refusal 41
unfolding rewrite_interval rewrite_verdict valid all_below records_verdict head_verdict due_verdict link_verdict whole number_at number
total-41 = refl

twice-42 : rewrites (head 2 ++ (first ++ first)) ≡ refusal 42
unfolding rewrite_interval rewrite_verdict valid all_below records_verdict head_verdict due_verdict link_verdict whole region_verdict first_refusal any_below number_at number
twice-42 = refl

short-23 : rewrite_interval two (1 ∷ 2 ∷ 3 ∷ []) 0 (replicate 51 7) ≡ record { verdict = refused 23; next = 0; book = two; buffer = replicate 51 7 }
unfolding rewrite_interval rewrite_verdict valid all_below
short-23 = refl
