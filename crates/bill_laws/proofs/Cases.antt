-- Worked cases of a bill, computed: the example of three linked regions, and bills of one region that are right, wrong and refused. Assumes nothing.
use mathlib.Core.Path.{◌≡◌, refl}
use mathlib.Core.List.{List, [], ◌∷◌, ◌++◌}
use Prim.Native.Nat.{ℕ}
use lib.IntN.{ℤ, pos, negsuc}
use lib.ListN.{replicate}
use Rattle.laws.specs.Base.{min_z, max_z}
use Rattle.laws.specs.Lists.{run, any_below, all_below, count_below, first_below}
use Rattle.laws.specs.Bytes.{number, number_at}
use Rattle.pricing.specs.Verdict.{Verdict, accepted, refused, refused_at}
use Rattle.pricing.specs.Holding.{held}
use Rattle.pricing.specs.Rounding.{nearest, rounded}
use Rattle.pricing.specs.Carrying.{carried}
use Rattle.pricing.specs.Passing.{cents}
use Rattle.book.specs.declared.record.Book.{Book}
use Rattle.book.specs.Validity.{valid}
use Rattle.routes.specs.Limits.{tighter, over}
use Rattle.routes.specs.Links.{extra_of, power_of}
use Rattle.routes.specs.Routes.{along, joined, after, routes_from, over_all, limit_of}
use Rattle.publishing.specs.Effective.{scheduled, effective}
use Rattle.publishing.specs.Capped.{any_administered, capped_by}
use Rattle.publishing.specs.Bounds.{has_limit, in_cents, limit, at_most, at_least}
use Rattle.publishing.specs.Published.{published}
use Rattle.entries.specs.Checking.{entry_verdict}
use Rattle.entries.specs.Entering.{entered}
use Rattle.interval_records.specs.Record.{whole, due_verdict, link_verdict, head_verdict, first_refusal}
use Rattle.interval_records.specs.InOrder.{next_verdict, ordered_verdict}
use Rattle.intervals.specs.Reading.{read_verdict, read_interval}
use Rattle.bill_lines.specs.Lines.{Lines, lines_of, line_right}
use Rattle.bill_lines.specs.Lent.{lent_verdict}
use Rattle.interval_entry.specs.Taking.{taken_into}
use Rattle.billing.specs.Billing.{bill_of, Outcome, runs, billed}

-- a book of some linked regions with energy alone and a window of one price
abbrev linked : ℕ → List ℕ → Book
linked regions parents = record {
  regions = regions;
  services = 0;
  window = 1;
  halves = 1;
  parents = parents;
  from = 255;
  to = 255;
  threshold = pos 90000;
  cap = pos 60000;
  floor = negsuc 59999;
  entries = 0;
  position = 0;
  counts = replicate 8 0;
  nexts = replicate 8 0;
  sums = replicate 88 (pos 0);
  marks = replicate 88 0;
}

-- ---- entries 0 and 1 of document 01's example: the second is published at 60,000, 54,545 and 50,505
abbrev three : Book
three = linked 3 (255 ∷ 0 ∷ 1 ∷ replicate 5 255)

abbrev example : List ℕ
example =
    12 ∷ 0 ∷ 0 ∷ 0 ∷ 16 ∷ 0 ∷ 0 ∷ 0 ∷ 0 ∷ 0 ∷ 0 ∷ 3 ∷ 20 ∷ 0 ∷ 0 ∷ 0 ∷ 17 ∷ 0 ∷ 0 ∷ 0 ∷ 0 ∷ 0 ∷ 0 ∷ 0 ∷ 16 ∷ 39 ∷ 0 ∷ 0 ∷
    160 ∷ 134 ∷ 1 ∷ 0 ∷ 20 ∷ 0 ∷ 0 ∷ 0 ∷ 17 ∷ 0 ∷ 1 ∷ 0 ∷ 0 ∷ 0 ∷ 0 ∷ 0 ∷ 16 ∷ 39 ∷ 0 ∷ 0 ∷ 144 ∷ 95 ∷ 1 ∷ 0 ∷ 20 ∷ 0 ∷ 0 ∷ 0 ∷
    17 ∷ 0 ∷ 2 ∷ 0 ∷ 0 ∷ 0 ∷ 0 ∷ 0 ∷ 16 ∷ 39 ∷ 0 ∷ 0 ∷ 8 ∷ 76 ∷ 1 ∷ 0 ∷ 12 ∷ 0 ∷ 0 ∷ 0 ∷ 16 ∷ 0 ∷ 1 ∷ 0 ∷ 0 ∷ 0 ∷ 0 ∷ 3 ∷
    20 ∷ 0 ∷ 0 ∷ 0 ∷ 17 ∷ 0 ∷ 0 ∷ 0 ∷ 0 ∷ 0 ∷ 0 ∷ 0 ∷ 0 ∷ 0 ∷ 0 ∷ 0 ∷ 160 ∷ 134 ∷ 1 ∷ 0 ∷ 20 ∷ 0 ∷ 0 ∷ 0 ∷ 17 ∷ 0 ∷ 1 ∷ 0 ∷
    1 ∷ 0 ∷ 0 ∷ 0 ∷ 248 ∷ 42 ∷ 0 ∷ 0 ∷ 144 ∷ 95 ∷ 1 ∷ 0 ∷ 20 ∷ 0 ∷ 0 ∷ 0 ∷ 17 ∷ 0 ∷ 2 ∷ 0 ∷ 1 ∷ 0 ∷ 0 ∷ 0 ∷ 48 ∷ 42 ∷ 0 ∷ 0 ∷
    8 ∷ 76 ∷ 1 ∷ 0 ∷ []

-- a thousand kilowatt-hours an interval, at these prices
abbrev thousands : ℤ → ℤ → Lines
thousands x y = lines_of (0 ∷ 1 ∷ []) (1000 ∷ 1000 ∷ []) (x ∷ y ∷ []) (x ∷ y ∷ [])

abbrev asked : ℕ → ℤ → ℤ → Outcome
asked region x y = billed three (replicate 3 (pos 0)) (replicate 3 (pos 7)) (bill_of example (replicate 6 (pos 0)) region (thousands x y))

-- yes; the first wrong line; a refusal: each with the book as it was
abbrev yes : Book → List ℤ → Outcome
yes b work = record { verdict = accepted; right = 1; line = 0; book = b; work = work }

abbrev wrong : ℕ → Book → List ℤ → Outcome
wrong line b work = record { verdict = accepted; right = 0; line = line; book = b; work = work }

abbrev not-judged : Verdict → Book → List ℤ → Outcome
not-judged v b work = record { verdict = v; right = 0; line = 0; book = b; work = work }

abbrev after_both : List ℤ
after_both = pos 100000 ∷ pos 90000 ∷ pos 85000 ∷ []

region-0 : asked 0 (pos 100000) (pos 60000) ≡ yes three after_both
unfolding billed lent_verdict runs taken_into line_right read_interval read_verdict ordered_verdict head_verdict due_verdict link_verdict whole next_verdict first_refusal entered entry_verdict valid all_below any_below count_below first_below number_at number run min_z max_z held nearest rounded carried cents in_cents tighter over extra_of power_of along joined after routes_from over_all limit_of scheduled effective any_administered capped_by has_limit limit at_most at_least published
region-0 = refl

region-1 : asked 1 (pos 90000) (pos 54545) ≡ yes three after_both
unfolding billed lent_verdict runs taken_into line_right read_interval read_verdict ordered_verdict head_verdict due_verdict link_verdict whole next_verdict first_refusal entered entry_verdict valid all_below any_below count_below first_below number_at number run min_z max_z held nearest rounded carried cents in_cents tighter over extra_of power_of along joined after routes_from over_all limit_of scheduled effective any_administered capped_by has_limit limit at_most at_least published
region-1 = refl

region-2 : asked 2 (pos 85000) (pos 50505) ≡ yes three after_both
unfolding billed lent_verdict runs taken_into line_right read_interval read_verdict ordered_verdict head_verdict due_verdict link_verdict whole next_verdict first_refusal entered entry_verdict valid all_below any_below count_below first_below number_at number run min_z max_z held nearest rounded carried cents in_cents tighter over extra_of power_of along joined after routes_from over_all limit_of scheduled effective any_administered capped_by has_limit limit at_most at_least published
region-2 = refl

-- ---- one region: 100,000, then 70,000, which is published at 60,000
abbrev one : Book
one = linked 1 (replicate 8 255)

abbrev first : List ℕ
first =
    12 ∷ 0 ∷ 0 ∷ 0 ∷ 16 ∷ 0 ∷ 0 ∷ 0 ∷ 0 ∷ 0 ∷ 0 ∷ 1 ∷ 20 ∷ 0 ∷ 0 ∷ 0 ∷ 17 ∷ 0 ∷ 0 ∷ 0 ∷ 0 ∷ 0 ∷ 0 ∷ 0 ∷ 16 ∷ 39 ∷ 0 ∷ 0 ∷
    160 ∷ 134 ∷ 1 ∷ 0 ∷ []

abbrev second : List ℕ
second =
    12 ∷ 0 ∷ 0 ∷ 0 ∷ 16 ∷ 0 ∷ 1 ∷ 0 ∷ 0 ∷ 0 ∷ 0 ∷ 1 ∷ 20 ∷ 0 ∷ 0 ∷ 0 ∷ 17 ∷ 0 ∷ 0 ∷ 0 ∷ 0 ∷ 0 ∷ 0 ∷ 0 ∷ 16 ∷ 39 ∷ 0 ∷ 0 ∷
    112 ∷ 17 ∷ 1 ∷ 0 ∷ []

abbrev billed-one : List ℕ → Lines → Outcome
billed-one records lines = billed one (pos 0 ∷ []) (pos 7 ∷ []) (bill_of records (replicate 2 (pos 0)) 0 lines)

abbrev right : Lines
right = lines_of (0 ∷ 1 ∷ []) (3 ∷ 1 ∷ []) (pos 100000 ∷ pos 60000 ∷ []) (pos 300 ∷ pos 60 ∷ [])

abbrev taken : List ℤ
taken = pos 70000 ∷ []

right-lines : billed-one (first ++ second) right ≡ yes one taken
unfolding billed lent_verdict runs taken_into line_right read_interval read_verdict ordered_verdict head_verdict due_verdict link_verdict whole next_verdict first_refusal entered entry_verdict valid all_below any_below count_below first_below number_at number run min_z max_z held nearest rounded carried cents in_cents tighter over extra_of power_of along joined after routes_from over_all limit_of scheduled effective any_administered capped_by has_limit limit at_most at_least published
right-lines = refl

-- the entry price in place of the published one
entry-price : billed-one (first ++ second) (lines_of (0 ∷ 1 ∷ []) (3 ∷ 1 ∷ []) (pos 100000 ∷ pos 70000 ∷ []) (pos 300 ∷ pos 70 ∷ [])) ≡ wrong 1 one taken
unfolding billed lent_verdict runs taken_into line_right read_interval read_verdict ordered_verdict head_verdict due_verdict link_verdict whole next_verdict first_refusal entered entry_verdict valid all_below any_below count_below first_below number_at number run min_z max_z held nearest rounded carried cents in_cents tighter over extra_of power_of along joined after routes_from over_all limit_of scheduled effective any_administered capped_by has_limit limit at_most at_least published
entry-price = refl

-- the second line is missing
missing-line : billed-one (first ++ second) (lines_of (0 ∷ []) (3 ∷ []) (pos 100000 ∷ []) (pos 300 ∷ [])) ≡ wrong 1 one taken
unfolding billed lent_verdict runs taken_into line_right read_interval read_verdict ordered_verdict head_verdict due_verdict link_verdict whole next_verdict first_refusal entered entry_verdict valid all_below any_below count_below first_below number_at number run min_z max_z held nearest rounded carried cents in_cents tighter over extra_of power_of along joined after routes_from over_all limit_of scheduled effective any_administered capped_by has_limit limit at_most at_least published
missing-line = refl

-- a third line
surplus-line : billed-one (first ++ second) (lines_of (0 ∷ 1 ∷ 2 ∷ []) (3 ∷ 1 ∷ 0 ∷ []) (pos 100000 ∷ pos 60000 ∷ pos 0 ∷ []) (pos 300 ∷ pos 60 ∷ pos 0 ∷ [])) ≡ wrong 2 one taken
unfolding billed lent_verdict runs taken_into line_right read_interval read_verdict ordered_verdict head_verdict due_verdict link_verdict whole next_verdict first_refusal entered entry_verdict valid all_below any_below count_below first_below number_at number run min_z max_z held nearest rounded carried cents in_cents tighter over extra_of power_of along joined after routes_from over_all limit_of scheduled effective any_administered capped_by has_limit limit at_most at_least published
surplus-line = refl

-- no records and no lines: the second ring is the copy
nothing-billed : billed-one [] (lines_of [] [] [] []) ≡ yes one (pos 0 ∷ [])
unfolding billed lent_verdict runs taken_into line_right read_interval read_verdict ordered_verdict head_verdict due_verdict link_verdict whole next_verdict first_refusal entered entry_verdict valid all_below any_below count_below first_below number_at number run min_z max_z held nearest rounded carried cents in_cents tighter over extra_of power_of along joined after routes_from over_all limit_of scheduled effective any_administered capped_by has_limit limit at_most at_least published
nothing-billed = refl

-- 46 has the line, and comes before a wrong line
too-much-energy : billed-one (first ++ second) (lines_of (9 ∷ 1 ∷ []) (3 ∷ 1000000001 ∷ []) (pos 100000 ∷ pos 60000 ∷ []) (pos 300 ∷ pos 60 ∷ [])) ≡ not-judged (refused_at 46 1) one taken
unfolding billed lent_verdict runs taken_into line_right read_interval read_verdict ordered_verdict head_verdict due_verdict link_verdict whole next_verdict first_refusal entered entry_verdict valid all_below any_below count_below first_below number_at number run min_z max_z held nearest rounded carried cents in_cents tighter over extra_of power_of along joined after routes_from over_all limit_of scheduled effective any_administered capped_by has_limit limit at_most at_least published
too-much-energy = refl

-- the records' refusal comes before 46 and a wrong line
records-first : billed-one (first ++ second ++ (1 ∷ 2 ∷ 3 ∷ 4 ∷ 5 ∷ [])) (lines_of (9 ∷ 1 ∷ []) (3 ∷ 1000000001 ∷ []) (pos 100000 ∷ pos 60000 ∷ []) (pos 300 ∷ pos 60 ∷ [])) ≡ not-judged (refused 40) one taken
unfolding billed lent_verdict runs taken_into line_right read_interval read_verdict ordered_verdict head_verdict due_verdict link_verdict whole next_verdict first_refusal entered entry_verdict valid all_below any_below count_below first_below number_at number run min_z max_z held nearest rounded carried cents in_cents tighter over extra_of power_of along joined after routes_from over_all limit_of scheduled effective any_administered capped_by has_limit limit at_most at_least published
records-first = refl

-- the first interval once more behind itself: the second ring holds what was accepted
number-again : billed-one (first ++ first) right ≡ not-judged (refused 13) one (pos 100000 ∷ [])
unfolding billed lent_verdict runs taken_into line_right read_interval read_verdict ordered_verdict head_verdict due_verdict link_verdict whole next_verdict first_refusal entered entry_verdict valid all_below any_below count_below first_below number_at number run min_z max_z held nearest rounded carried cents in_cents tighter over extra_of power_of along joined after routes_from over_all limit_of scheduled effective any_administered capped_by has_limit limit at_most at_least published
number-again = refl

-- half a cent away from zero: -500 cents for a kilowatt-hour is -0.5, and 500 for three is 1.5
abbrev halves : ℤ → Lines
halves x = lines_of (0 ∷ 1 ∷ []) (1 ∷ 3 ∷ []) (negsuc 499 ∷ pos 500 ∷ []) (x ∷ pos 2 ∷ [])

abbrev small : List ℕ
small =
    12 ∷ 0 ∷ 0 ∷ 0 ∷ 16 ∷ 0 ∷ 0 ∷ 0 ∷ 0 ∷ 0 ∷ 0 ∷ 1 ∷ 20 ∷ 0 ∷ 0 ∷ 0 ∷ 17 ∷ 0 ∷ 0 ∷ 0 ∷ 0 ∷ 0 ∷ 0 ∷ 0 ∷ 16 ∷ 39 ∷ 0 ∷ 0 ∷
    12 ∷ 254 ∷ 255 ∷ 255 ∷ 12 ∷ 0 ∷ 0 ∷ 0 ∷ 16 ∷ 0 ∷ 1 ∷ 0 ∷ 0 ∷ 0 ∷ 0 ∷ 1 ∷ 20 ∷ 0 ∷ 0 ∷ 0 ∷ 17 ∷ 0 ∷ 0 ∷ 0 ∷ 0 ∷ 0 ∷ 0 ∷ 0 ∷
    16 ∷ 39 ∷ 0 ∷ 0 ∷ 244 ∷ 1 ∷ 0 ∷ 0 ∷ []

half-away : billed-one small (halves (negsuc 0)) ≡ yes one (pos 500 ∷ [])
unfolding billed lent_verdict runs taken_into line_right read_interval read_verdict ordered_verdict head_verdict due_verdict link_verdict whole next_verdict first_refusal entered entry_verdict valid all_below any_below count_below first_below number_at number run min_z max_z held nearest rounded carried cents in_cents tighter over extra_of power_of along joined after routes_from over_all limit_of scheduled effective any_administered capped_by has_limit limit at_most at_least published
half-away = refl

half-toward : billed-one small (halves (pos 0)) ≡ wrong 0 one (pos 500 ∷ [])
unfolding billed lent_verdict runs taken_into line_right read_interval read_verdict ordered_verdict head_verdict due_verdict link_verdict whole next_verdict first_refusal entered entry_verdict valid all_below any_below count_below first_below number_at number run min_z max_z held nearest rounded carried cents in_cents tighter over extra_of power_of along joined after routes_from over_all limit_of scheduled effective any_administered capped_by has_limit limit at_most at_least published
half-toward = refl
