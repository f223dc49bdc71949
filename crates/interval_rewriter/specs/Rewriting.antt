-- An interval of the earlier form written anew, its regions in number order. Assumes nothing.
use Rattle.std.specs.Prelude.{Result, Ok, Err, Bool, not, List, ◌++◌, ℕ, ◌+◌, ltb, length, take, drop}
use Rattle.laws.specs.Base.{pick}
use Rattle.laws.specs.Lists.{joined}
use Rattle.pricing.specs.Verdict.{Verdict, accepted, refused}
use Rattle.book.specs.declared.record.Book.{Book}
use Rattle.book.specs.Record.{markets_of, has_link, verdict, is_accepted}
use Rattle.book.specs.Validity.{valid}
use Rattle.book.specs.declared.record.Reply.{Reply}
use Rattle.book.specs.declared.record.Refusal.{Refusal}
use Rattle.interval_records.specs.Layout.{head_length, region_length, link_length, length_for}
use Rattle.interval_records.specs.Record.{record_place}
use Rattle.interval_rewriter.specs.AnyOrder.{record_of, records_verdict}

-- "refusing by 10, 23, then 40 to 42"
unfoldable pub rewrite_verdict : Book → List ℕ → ℕ → ℕ → Verdict
rewrite_verdict b bytes at room =
    pick (not (valid b)) (refused 10)
    (pick (ltb room (length_for b)) (refused 23)
    (records_verdict (has_link b) b.regions (markets_of b.services) bytes at))

-- the bytes of region r's record, of those from `first` on
abbrev pub record_bytes : ℕ → ℕ → List ℕ → ℕ → ℕ → List ℕ
record_bytes regions markets bytes first r =
    take (region_length markets) (drop (record_place markets first (record_of regions markets bytes first r)) bytes)

-- the bytes of the additional link's record, where there is the link
abbrev pub link_bytes : Bool → ℕ → ℕ → List ℕ → ℕ → List ℕ
link_bytes linked regions markets bytes first = take (pick linked link_length 0) (drop (record_place markets first regions) bytes)

-- "in the fixed order", which is "0, 1 and so on": the head, then each region's record, and the link's "after the last region", as
-- they stand
unfoldable pub reordered : Bool → ℕ → ℕ → List ℕ → ℕ → List ℕ
reordered linked regions markets bytes at =
    take head_length (drop at bytes)
    ++ (joined regions 0 (record_bytes regions markets bytes (at + head_length)) ++ link_bytes linked regions markets bytes (at + head_length))

pub record Outcome : Type 0 where
  pub verdict : Verdict
  pub next : ℕ
  pub book : Book
  pub buffer : List ℕ

abbrev pub next_in : Result ℕ Refusal → ℕ
next_in (Ok next) = next
next_in (Err r) = 0

abbrev pub outcome : Reply ℕ → List ℕ → Outcome
outcome r buffer = record { verdict = verdict r.answer; next = next_in r.answer; book = r.book; buffer = buffer }

-- "writes it from the buffer's start .. and answers the place after the one taken"; the bytes after the interval stay
unfoldable pub rewrite_interval : Book → List ℕ → ℕ → List ℕ → Outcome
rewrite_interval b bytes at buffer =
    pick (is_accepted (rewrite_verdict b bytes at (length buffer)))
    (record {
      verdict = accepted;
      next = at + length_for b;
      book = b;
      buffer = reordered (has_link b) b.regions (markets_of b.services) bytes at ++ drop (length_for b) buffer;
    })
    (record { verdict = rewrite_verdict b bytes at (length buffer); next = 0; book = b; buffer = buffer })
