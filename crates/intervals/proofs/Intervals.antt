-- What the bytes of a whole interval say, and the bytes that say it. Assumes nothing.
use mathlib.Core.Path.{◌≡◌, refl, ap, ap₂, ◌∙◌}
use mathlib.Core.Bool.{Bool, true, false}
use mathlib.Core.List.{List, [], ◌∷◌, ◌++◌, append_assoc, append-nil}
use Prim.Native.Nat.{ℕ, zero, suc, ◌+◌, ◌-◌, ◌*◌, ◌/◌, ◌%◌, ◌<◌, ◌≤◌}
use native.Mathlib.Nat.{mul-le-mul_right, suc-mul, div-add-mod', mod-lt, div-lt_iff_lt-mul}
use native.Mathlib.Omega.{arith}
use lib.IntN.{pos}
use lib.ListN.{length, get_or, take, drop, length-append}
use lib.Seq.{drop-drop, take-add}
use mir.Syntax.{w32}
use mir.Val.{to_z}
use mir.Facts.{to_z-of_z}
use Rattle.laws.specs.Base.{pick}
use Rattle.laws.specs.Lists.{joined}
use Rattle.laws.specs.Bytes.{size_of}
use Rattle.laws.proofs.Fields.{length-encode}
use Rattle.laws.proofs.Lists.{tabulate-same}
use Rattle.laws.proofs.Joined.{tabulate-list, length-joined, sum_same}
use Rattle.interval_records.specs.Layout.{Interval, head_widths, head_length, region_length, link_length, interval_length, head_record, region_record, link_record, interval_bytes}
use Rattle.interval_records.specs.Record.{record_place}
use Rattle.intervals.specs.Reading.{interval_at}
use Rattle.interval_records.proofs.Says.{Fits, Bytes, HeadSays, RegionSays, LinkSays, head-says, region-says, link-says, head_bytes, region-bytes, link-bytes, region-length, link-length}
use Rattle.intervals.proofs.Lasts.{last-same, last-list}

pub record Says (linked : Bool) (R M : ℕ) (bytes : List ℕ) (at : ℕ) (v : Interval) : Type 0 where
  pub room : at + interval_length linked R M ≤ length bytes
  pub head : HeadSays R bytes at v
  pub regions : (k : ℕ) → k < R → RegionSays M bytes (record_place M (at + head_length) k) v k
  pub link : linked ≡ true → LinkSays R bytes (record_place M (at + head_length) R) v

-- ---- lists one after the other
pub joined-split : {A : Type 0} (f : ℕ → List A) (a b i : ℕ) → joined (a + b) i f ≡ joined a i f ++ joined b (i + a) f
unfolding joined
joined-split f zero b i = let z : 0 + b ≡ b = omega arith in let y : i + 0 ≡ i = omega arith in rw (z, y)
joined-split f (suc a) b i =
    let e : suc a + b ≡ suc (a + b) = omega arith in
    let g : i + suc a ≡ suc i + a = omega arith in
    rw (e, g, joined-split f a b (suc i), append_assoc (f i) (joined a (suc i) f) (joined b (suc i + a) f))

pub joined-next : {A : Type 0} (f : ℕ → List A) (n i : ℕ) → joined (suc n) (0 + i) f ≡ f i ++ joined n (suc i) f
unfolding joined
joined-next f n i = let z : 0 + i ≡ i = omega arith in rw z

pub joined-one : {A : Type 0} (f : ℕ → List A) (i : ℕ) → joined 1 i f ≡ f i
unfolding joined
joined-one f i = append-nil (f i)

-- parts of equal size, one behind the other
pub joined_bytes : (f : ℕ → List ℕ) (size first : ℕ) (bytes : List ℕ) (n k : ℕ) → ((j : ℕ) → k ≤ j → j < k + n → f j ≡ take size (drop (first + j * size) bytes))
    → joined n k f ≡ take (n * size) (drop (first + k * size) bytes)
unfolding joined
joined_bytes f size first bytes zero k h = let z : 0 * size ≡ 0 = omega arith in rw z
joined_bytes f size first bytes (suc n) k h =
    let d = drop (first + k * size) bytes in
    let a : suc n * size ≡ size + n * size = omega (arith, suc-mul n size) in
    let e : first + suc k * size ≡ first + k * size + size = omega (arith, suc-mul k size) in
    rw (h k (omega arith) (omega arith), joined_bytes f size first bytes n (suc k) (λ j p q. h j (omega arith) (omega arith)), a, take-add size (n * size) d, drop-drop size (first + k * size) bytes, e)

pub joined_length : (f : ℕ → List ℕ) (size n k : ℕ) → ((j : ℕ) → length (f j) ≡ size) → length (joined n k f) ≡ n * size
joined_length f size n k h = length-joined f (λ _. size) n k (λ j p q. h j) ∙ sum_same n k size (λ _. size) (λ j l. refl)

-- ---- how long an interval's bytes are
last-length : (linked : Bool) (R : ℕ) (v : Interval) → length (pick linked (link_record R v) []) ≡ pick linked link_length 0
last-length true R v = link-length R v
last-length false R v = refl

pub bytes-length : (linked : Bool) (R M : ℕ) (v : Interval) → length (interval_bytes linked R M v) ≡ interval_length linked R M
unfolding interval_bytes head_record head_widths size_of
bytes-length linked R M v =
    length-append (head_record R v) (joined R 0 (region_record M v) ++ pick linked (link_record R v) [])
    ∙ omega (
      arith,
      length-encode head_widths (head_length ∷ 16 ∷ v.number ∷ v.kind ∷ R ∷ []) refl,
      length-append (joined R 0 (region_record M v)) (pick linked (link_record R v) []),
      joined_length (region_record M v) (region_length M) R 0 (region-length M v),
      last-length linked R v,
    )

-- the additional link's record, or nothing
pub last-bytes : (linked : Bool) (R : ℕ) (v : Interval) (bytes : List ℕ) → Bytes bytes → (p : ℕ) → p + pick linked link_length 0 ≤ length bytes → (linked ≡ true → LinkSays R bytes p v)
    → pick linked (link_record R v) [] ≡ take (pick linked link_length 0) (drop p bytes)
last-bytes true R v bytes b p h s = link-bytes bytes b p R v h (s refl)
last-bytes false R v bytes b p h s = refl

module _ (linked : Bool) (R M : ℕ) (small : R ≤ 8) (few : M ≤ 11) (v : Interval) where
  abbrev rec : ℕ → List ℕ
  rec = region_record M v

  -- 4. the bytes that say an interval are its bytes
  module _ (bytes : List ℕ) (b : Bytes bytes) (at : ℕ) where
    pub says-bytes : Says linked R M bytes at v → interval_bytes linked R M v ≡ take (interval_length linked R M) (drop at bytes)
    unfolding interval_bytes
    says-bytes s =
        let n = R * region_length M in
        let t = pick linked link_length 0 in
        let z : at + 12 + 0 * region_length M ≡ at + 12 = omega arith in
        let y : 12 + n + t ≡ 12 + (n + t) = omega arith in
        let e = last-bytes linked R v bytes b (record_place M (at + 12) R) (omega (arith, s.room)) s.link in
        let j = joined_bytes rec (region_length M) (at + 12) bytes R 0 (λ k p q. region-bytes bytes b (record_place M (at + 12) k) M v k (place-room k (omega arith) s.room) (s.regions k (omega arith))) in
        rw (head_bytes bytes b at R v (omega (arith, s.room)) s.head, j, e, y, take-add 12 (n + t) (drop at bytes), drop-drop 12 at bytes, take-add n t (drop (at + 12) bytes), drop-drop n (at + 12) bytes, z)
      where
        place-room : (k : ℕ) → k < R → at + interval_length linked R M ≤ length bytes → at + 12 + k * region_length M + region_length M ≤ length bytes
        place-room k h r = omega (arith, mul-le-mul_right (region_length M) h, suc-mul k (region_length M))

  -- 1. an interval's bytes say it, wherever they stand
  module _ (f : Fits v) (pre post : List ℕ) where
    head-length : length (head_record R v) ≡ 12
    unfolding head_record head_widths size_of
    head-length = length-encode head_widths _ refl

    rec-length : (j : ℕ) → length (rec j) ≡ region_length M
    rec-length j = region-length M v j

    -- record k, with what stands before and behind it
    abbrev after : List ℕ
    after = pick linked (link_record R v) [] ++ post

    apart : (k : ℕ) → k < R → pre ++ (interval_bytes linked R M v ++ post) ≡ (pre ++ (head_record R v ++ joined k 0 rec)) ++ (rec k ++ (joined (R - suc k) (suc k) rec ++ after))
    unfolding interval_bytes
    apart k h =
        let e : R ≡ k + suc (R - suc k) = omega arith in
        let s : joined R 0 rec ≡ joined k 0 rec ++ (rec k ++ joined (R - suc k) (suc k) rec) = ap (λ (n : ℕ). joined n 0 rec) e ∙ joined-split rec k (suc (R - suc k)) 0 ∙ ap (λ (l : List ℕ). joined k 0 rec ++ l) (joined-next rec (R - suc k) k) in
        rw s (simp append_assoc)

    place : (k : ℕ) → length (pre ++ (head_record R v ++ joined k 0 rec)) ≡ record_place M (length pre + head_length) k
    place k =
        length-append pre (head_record R v ++ joined k 0 rec)
        ∙ omega (arith, length-append (head_record R v) (joined k 0 rec), head-length, joined_length rec (region_length M) k 0 rec-length)

    the-head : HeadSays R (pre ++ (interval_bytes linked R M v ++ post)) (length pre) v
    unfolding interval_bytes
    the-head =
        let rest = joined R 0 rec ++ pick linked (link_record R v) [] in
        rw (append_assoc (head_record R v) rest post) (head-says R v (omega arith) f pre (rest ++ post))

    -- the link's record behind them all
    behind : linked ≡ true → pre ++ (interval_bytes linked R M v ++ post) ≡ (pre ++ (head_record R v ++ joined R 0 rec)) ++ (link_record R v ++ post)
    unfolding interval_bytes
    behind l = rw l (simp append_assoc)

    pub bytes-say : Says linked R M (pre ++ (interval_bytes linked R M v ++ post)) (length pre) v
    bytes-say = record {
      room = omega (arith, length-append pre (interval_bytes linked R M v ++ post), length-append (interval_bytes linked R M v) post, bytes-length linked R M v);
      head = the-head;
      regions = λ k h. rw (apart k h, ← place k) (region-says M v few f k (omega arith) (pre ++ (head_record R v ++ joined k 0 rec)) (joined (R - suc k) (suc k) rec ++ after));
      link = λ l. rw (behind l, ← place R) (link-says R v f (pre ++ (head_record R v ++ joined R 0 rec)) post);
    }

-- ---- 2. what is read where the bytes say an interval, its records where `which` says
module _ (linked : Bool) (R M : ℕ) (some : 0 < M) (bytes : List ℕ) (at : ℕ) (v : Interval) (f : Fits v) (which : ℕ → ℕ)
    (head : HeadSays R bytes at v) (regions : (r : ℕ) → r < R → RegionSays M bytes (record_place M (at + head_length) (which r)) v r)
    (link : linked ≡ true → LinkSays R bytes (record_place M (at + head_length) R) v)
    (p : length v.prices ≡ R * M) (m : length v.marked ≡ R) (w : length v.flows ≡ pick linked (R + 1) R) (x : length v.factors ≡ pick linked (R + 1) R) where
  abbrev said : Interval
  said = interval_at linked R M bytes at which

  pub says-interval : said ≡ v
  says-interval = λ i. record {
    number = head.number i;
    kind = head.day i;
    prices = prices-are i;
    marked = marked-are i;
    flows = flows-are i;
    factors = factors-are i;
  }
    where
      marked-are : said.marked ≡ v.marked
      marked-are = tabulate-same R _ (λ r. get_or v.marked r 0) (λ r h. (regions r h).mark) ∙ tabulate-list 0 v.marked R m

      factors-are : said.factors ≡ v.factors
      factors-are =
          ap₂ ◌++◌ (tabulate-same R _ (λ r. get_or v.factors r 0) (λ r h. (regions r h).factor))
          (last-same linked _ (get_or v.factors R 0) (λ l. (link l).factor))
          ∙ last-list linked 0 v.factors R x

      flows-are : said.flows ≡ v.flows
      flows-are =
          ap₂ ◌++◌ (tabulate-same R _ (λ r. get_or v.flows r (pos 0)) (λ r h. ap (to_z w32) (regions r h).flow ∙ to_z-of_z (f.flows r)))
          (last-same linked _ (get_or v.flows R (pos 0)) (λ l. ap (to_z w32) (link l).flow ∙ to_z-of_z (f.flows R)))
          ∙ last-list linked (pos 0) v.flows R w

      at-q : (q : ℕ) → q / M * M + q % M ≡ q
      at-q q = div-add-mod' q M

      prices-are : said.prices ≡ v.prices
      prices-are =
          tabulate-same (R * M) _ (λ q. get_or v.prices q (pos 0))
          (λ q h. (regions (q / M) ((div-lt_iff_lt-mul some).1 h)).price (q % M) (mod-lt q some) ∙ ap (λ (k : ℕ). get_or v.prices k (pos 0)) (at-q q))
          ∙ tabulate-list (pos 0) v.prices (R * M) p
