-- `image::loading::good_head` meets its contract. Assumes nothing.
use mathlib.Core.Path.{◌≡◌, sym, ap₂, ◌∙◌}
use mathlib.Core.Bool.{true, false}
use lib.ListN.{length}
use Rattle.laws.specs.Bytes.{number_at}
use Rattle.head.specs.Layout.{length_of, is_second, head_from}
use Rattle.image.specs.Loading.{lacks_tail, kind_ok, fields_ok}
use Rattle.image.proofs.Ways.{head-short, head-24, head-second, head-25, head-26, head-27, head-0}
use Rattle.image.proofs.loading.good_head.Goals as goal

pub returns-then-n-lt148-clause-answer : goal.returns-then-n-lt148-clause-answer
returns-then-n-lt148-clause-answer c = head-short _ c.if-n-lt148.true

pub returns-then-get_u32-n-clause-answer : goal.returns-then-get_u32-n-clause-answer
returns-then-get_u32-n-clause-answer c = head-24 _ c.if-n-lt148.false (λ e. c.if-get_u32-n.true (c.get_u32.ensures ∙ e))

pub returns-then-lacks_tail-clause-answer : goal.returns-then-lacks_tail-clause-answer
returns-then-lacks_tail-clause-answer c =
    let size : let l = c.args.bytes.now in number_at l 0 4 ≡ length l = sym c.get_u32.ensures ∙ c.if-get_u32-n.false in
    head-second _ c.if-n-lt148.false (size) (sym c.lacks_tail.ensures ∙ c.if-lacks_tail.true)

pub returns-then-not-kind_ok-clause-answer : goal.returns-then-not-kind_ok-clause-answer
returns-then-not-kind_ok-clause-answer c =
    let size : let l = c.args.bytes.now in number_at l 0 4 ≡ length l = sym c.get_u32.ensures ∙ c.if-get_u32-n.false in
    let tailed : lacks_tail c.args.bytes.now ≡ false = sym c.lacks_tail.ensures ∙ c.if-lacks_tail.false in
    head-25 _ c.if-n-lt148.false (size) (tailed) (sym c.kind_ok.ensures ∙ c.if-not-kind_ok.true)

pub returns-then-not-fields_ok-clause-answer : goal.returns-then-not-fields_ok-clause-answer
returns-then-not-fields_ok-clause-answer c =
    let size : let l = c.args.bytes.now in number_at l 0 4 ≡ length l = sym c.get_u32.ensures ∙ c.if-get_u32-n.false in
    let tailed : lacks_tail c.args.bytes.now ≡ false = sym c.lacks_tail.ensures ∙ c.if-lacks_tail.false in
    let kind : kind_ok c.args.bytes.now ≡ true = sym c.kind_ok.ensures ∙ c.if-not-kind_ok.false in
    head-26 _ c.if-n-lt148.false (size) (tailed) (kind) (sym c.fields_ok.ensures ∙ c.if-not-fields_ok.true)

pub returns-then-n-image_length-clause-answer : goal.returns-then-n-image_length-clause-answer
returns-then-n-image_length-clause-answer c =
    let size : let l = c.args.bytes.now in number_at l 0 4 ≡ length l = sym c.get_u32.ensures ∙ c.if-get_u32-n.false in
    let tailed : lacks_tail c.args.bytes.now ≡ false = sym c.lacks_tail.ensures ∙ c.if-lacks_tail.false in
    let kind : kind_ok c.args.bytes.now ≡ true = sym c.kind_ok.ensures ∙ c.if-not-kind_ok.false in
    let good : fields_ok c.args.bytes.now ≡ true = sym c.fields_ok.ensures ∙ c.if-not-fields_ok.false in
    let total : let l = c.args.bytes.now in
    c.image_length.result ≡ length_of (is_second l) (head_from l) = c.image_length.ensures.0 ∙ ap₂ length_of c.is_second.ensures c.book-book.ensures in
    head-27 _ c.if-n-lt148.false (size) (tailed) (kind) (good) (λ q. c.if-n-image_length.true (q ∙ sym (total)))

pub returns-clause-answer : goal.returns-clause-answer
returns-clause-answer c =
    let size : let l = c.args.bytes.now in number_at l 0 4 ≡ length l = sym c.get_u32.ensures ∙ c.if-get_u32-n.false in
    let tailed : lacks_tail c.args.bytes.now ≡ false = sym c.lacks_tail.ensures ∙ c.if-lacks_tail.false in
    let kind : kind_ok c.args.bytes.now ≡ true = sym c.kind_ok.ensures ∙ c.if-not-kind_ok.false in
    let good : fields_ok c.args.bytes.now ≡ true = sym c.fields_ok.ensures ∙ c.if-not-fields_ok.false in
    let total : let l = c.args.bytes.now in
    c.image_length.result ≡ length_of (is_second l) (head_from l) = c.image_length.ensures.0 ∙ ap₂ length_of c.is_second.ensures c.book-book.ensures in
    head-0 _ c.if-n-lt148.false (size) (tailed) (kind) (good) (c.if-n-image_length.false ∙ total)
