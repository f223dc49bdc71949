-- `image::storing::store_verdict` meets its contract. Assumes nothing.
use mathlib.Core.Path.{◌≡◌, sym, ap, ◌∙◌}
use mathlib.Core.Bool.{Bool, true, not, ◌||◌}
use native.Mathlib.Omega.{arith}
use lib.ListN.{length}
use Rattle.book.specs.Validity.{valid}
use Rattle.image.specs.Loading.{ring_of}
use Rattle.image.specs.Storing.{prices_ok, kind_tells}
use Rattle.image.proofs.Ways.{store-10, store-11, store-22, store-47, store-23, store-0}
use Rattle.image.proofs.storing.store_verdict.Goals as goal

pub returns-then-not-valid : goal.returns-then-not-valid
returns-then-not-valid c = store-10 _ _ _ _ (sym c.valid.ensures ∙ c.if-not-valid.true)

pub returns-then-ring-ring_size : goal.returns-then-ring-ring_size
returns-then-ring-ring_size c =
    let good : valid c.args.book ≡ true = sym c.valid.ensures ∙ c.if-not-valid.false in
    store-11 _ _ _ _ (good) (λ e. c.if-ring-ring_size.true (e ∙ sym c.ring_size.ensures))

pub returns-then-not-prices_ok : goal.returns-then-not-prices_ok
returns-then-not-prices_ok c =
    let good : valid c.args.book ≡ true = sym c.valid.ensures ∙ c.if-not-valid.false in
    let sized : let a = c.args in length a.ring.now ≡ ring_of a.book = c.if-ring-ring_size.false ∙ c.ring_size.ensures in
    store-22 _ _ _ _ (good) (sized) (sym c.prices_ok.ensures ∙ c.if-not-prices_ok.true)

pub returns-then-not-second-has_link : goal.returns-then-not-second-has_link
returns-then-not-second-has_link c =
    let good : valid c.args.book ≡ true = sym c.valid.ensures ∙ c.if-not-valid.false in
    let sized : let a = c.args in length a.ring.now ≡ ring_of a.book = c.if-ring-ring_size.false ∙ c.ring_size.ensures in
    let summed : let a = c.args in prices_ok a.book a.ring.now ≡ true = sym c.prices_ok.ensures ∙ c.if-not-prices_ok.false in
    let telling : let a = c.args in
    (a.second || not c.has_link.result) ≡ kind_tells a.second a.book = (let a = c.args in ap (λ (t : Bool). a.second || not t) c.has_link.ensures) in
    store-47 _ _ _ _ (good) (sized) (summed) (sym (telling) ∙ c.if-not-second-has_link.true)

pub returns-then-room-image_length : goal.returns-then-room-image_length
returns-then-room-image_length c =
    let good : valid c.args.book ≡ true = sym c.valid.ensures ∙ c.if-not-valid.false in
    let sized : let a = c.args in length a.ring.now ≡ ring_of a.book = c.if-ring-ring_size.false ∙ c.ring_size.ensures in
    let summed : let a = c.args in prices_ok a.book a.ring.now ≡ true = sym c.prices_ok.ensures ∙ c.if-not-prices_ok.false in
    let telling : let a = c.args in
    (a.second || not c.has_link.result) ≡ kind_tells a.second a.book = (let a = c.args in ap (λ (t : Bool). a.second || not t) c.has_link.ensures) in
    let told : let a = c.args in kind_tells a.second a.book ≡ true = sym (telling) ∙ c.if-not-second-has_link.false in
    store-23 _ _ _ _ (good) (sized) (summed) (told) (omega (arith, c.image_length.ensures.0))

pub returns : goal.returns
returns c =
    let good : valid c.args.book ≡ true = sym c.valid.ensures ∙ c.if-not-valid.false in
    let sized : let a = c.args in length a.ring.now ≡ ring_of a.book = c.if-ring-ring_size.false ∙ c.ring_size.ensures in
    let summed : let a = c.args in prices_ok a.book a.ring.now ≡ true = sym c.prices_ok.ensures ∙ c.if-not-prices_ok.false in
    let telling : let a = c.args in
    (a.second || not c.has_link.result) ≡ kind_tells a.second a.book = (let a = c.args in ap (λ (t : Bool). a.second || not t) c.has_link.ensures) in
    let told : let a = c.args in kind_tells a.second a.book ≡ true = sym (telling) ∙ c.if-not-second-has_link.false in
    store-0 _ _ _ _ (good) (sized) (summed) (told) (omega (arith, c.image_length.ensures.0))
