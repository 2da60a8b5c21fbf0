-- The bound on how many texts or channels there are never decides, so that each reads as its first and then the others.
use Rattle.std.proofs.Common.{◌≡◌, ℕ, zero, suc, ◌<◌, ◌≤◌, Bool, true, false, cond, eqb, List, [], ◌∷◌, ◌++◌, length, Ok, Err, sym, refl, ap, ◌∙◌, not-suc-le-zero, arith, length-append}
use borrow.Author.Tests.{eqb-false}
use Rattle.layout.specs.Numbers.{Bytes}
use Rattle.layout.specs.Questions.{Answer, next}
use Rattle.layout.specs.Texts.{counted, onto, go_on, texts_in, CountedIs}
use Rattle.layout.specs.Channels.{Channel, channel, channels, channels_in, ChannelIs}
use Rattle.layout.specs.Laws.{BoundNeverDecides}
use Rattle.layout.proofs.Reading.{Sees}
use Rattle.layout.proofs.Texted.{counted_sees, four_bytes}
use Rattle.layout.proofs.Channeled.{channel_sees, some_bytes}

-- ---- texts

no_texts : (k size : ℕ) → texts_in k size [] ≡ Ok []
unfolding texts_in
no_texts zero size = refl
no_texts (suc k) size = refl

pub texts_enough : (size j k : ℕ) (xs : Bytes) → length xs ≤ j → length xs ≤ k → texts_in j size xs ≡ texts_in k size xs
unfolding texts_in
texts_enough size j k [] h g = no_texts j size ∙ sym (no_texts k size)
texts_enough size zero k (b ∷ xs) h g = absurd (not-suc-le-zero h)
texts_enough size (suc j) zero (b ∷ xs) h g = absurd (not-suc-le-zero g)
texts_enough size (suc j) (suc k) (b ∷ xs) h g =
    at (counted 2147483647 size (b ∷ xs)) (counted_sees 2147483647 size (b ∷ xs)) (λ r p q. texts_enough size j k r p q)
  where
    at : (a : Answer Bytes) → Sees (CountedIs 2147483647 size) (b ∷ xs) a → ((r : Bytes) → length r ≤ j → length r ≤ k → texts_in j size r ≡ texts_in k size r) →
        go_on a (λ t r. onto t (texts_in j size r)) ≡ go_on a (λ t r. onto t (texts_in k size r))
    at (Err q) s ih = refl
    at (Ok p) (bs, e, is) ih =
        let four : 4 ≤ length bs = four_bytes 2147483647 size p.0 bs is in
        let l : suc (length xs) ≡ length (bs ++ p.1) = ap length e in
        let m = length-append bs p.1 in
        ap (onto p.0) (ih p.1 (omega arith) (omega arith))

-- a value's texts are its first one and then the others
pub texts_next : (size b : ℕ) (xs : Bytes) →
    texts_in (length (b ∷ xs)) size (b ∷ xs) ≡ go_on (counted 2147483647 size (b ∷ xs)) (λ t r. onto t (texts_in (length r) size r))
unfolding texts_in
texts_next size b xs = at (counted 2147483647 size (b ∷ xs)) (counted_sees 2147483647 size (b ∷ xs))
  where
    at : (a : Answer Bytes) → Sees (CountedIs 2147483647 size) (b ∷ xs) a →
        go_on a (λ t r. onto t (texts_in (length xs) size r)) ≡ go_on a (λ t r. onto t (texts_in (length r) size r))
    at (Err q) s = refl
    at (Ok p) (bs, e, is) =
        let four : 4 ≤ length bs = four_bytes 2147483647 size p.0 bs is in
        let l : suc (length xs) ≡ length (bs ++ p.1) = ap length e in
        let m = length-append bs p.1 in
        ap (onto p.0) (texts_enough size (length xs) (length p.1) p.1 (omega arith) (omega arith))

-- ---- channels

pub channels_enough : (j k : ℕ) (xs : Bytes) → length xs < j → length xs < k → channels_in j xs ≡ channels_in k xs
unfolding channels_in
channels_enough zero k xs h g = absurd (not-suc-le-zero h)
channels_enough (suc j) zero xs h g = absurd (not-suc-le-zero g)
channels_enough (suc j) (suc k) [] h g = refl
channels_enough (suc j) (suc k) (b ∷ xs) h g = by (λ r p q. channels_enough j k r p q) (eqb b 0) refl
  where
    at : ((r : Bytes) → length r < j → length r < k → channels_in j r ≡ channels_in k r) → (a : Answer Channel) → Sees ChannelIs (b ∷ xs) a →
        next a (λ c r. next (channels_in j r) (λ cs r. Ok (c ∷ cs, r))) ≡ next a (λ c r. next (channels_in k r) (λ cs r. Ok (c ∷ cs, r)))
    at ih (Err q) s = refl
    at ih (Ok p) (bs, e, is) =
        let one : 1 ≤ length bs = some_bytes p.0 bs is in
        let l : suc (length xs) ≡ length (bs ++ p.1) = ap length e in
        let m = length-append bs p.1 in
        ap (λ (a : Answer (List Channel)). next a (λ cs r. Ok (p.0 ∷ cs, r))) (ih p.1 (omega arith) (omega arith))

    by : ((r : Bytes) → length r < j → length r < k → channels_in j r ≡ channels_in k r) → (t : Bool) → eqb b 0 ≡ t → cond t (Ok ([], xs)) (next (channel (b ∷ xs)) (λ c r. next (channels_in j r) (λ cs r. Ok (c ∷ cs, r))))
        ≡ cond t (Ok ([], xs)) (next (channel (b ∷ xs)) (λ c r. next (channels_in k r) (λ cs r. Ok (c ∷ cs, r))))
    by ih true e = refl
    by ih false e = at ih (channel (b ∷ xs)) (channel_sees b xs (eqb-false b 0 e))

-- the channels of some bytes are the first one and then the others
pub channels_next : (b : ℕ) (xs : Bytes) →
    channels (b ∷ xs) ≡ cond (eqb b 0) (Ok ([], xs)) (next (channel (b ∷ xs)) (λ c r. next (channels r) (λ cs r. Ok (c ∷ cs, r))))
unfolding channels_in
channels_next b xs = by (eqb b 0) refl
  where
    at : (a : Answer Channel) → Sees ChannelIs (b ∷ xs) a →
        next a (λ c r. next (channels_in (suc (length xs)) r) (λ cs r. Ok (c ∷ cs, r))) ≡ next a (λ c r. next (channels r) (λ cs r. Ok (c ∷ cs, r)))
    at (Err q) s = refl
    at (Ok p) (bs, e, is) =
        let one : 1 ≤ length bs = some_bytes p.0 bs is in
        let l : suc (length xs) ≡ length (bs ++ p.1) = ap length e in
        let m = length-append bs p.1 in
        ap (λ (a : Answer (List Channel)). next a (λ cs r. Ok (p.0 ∷ cs, r)))
        (channels_enough (suc (length xs)) (suc (length p.1)) p.1 (omega arith) (omega arith))

    by : (t : Bool) → eqb b 0 ≡ t → cond t (Ok ([], xs)) (next (channel (b ∷ xs)) (λ c r. next (channels_in (suc (length xs)) r) (λ cs r. Ok (c ∷ cs, r))))
        ≡ cond t (Ok ([], xs)) (next (channel (b ∷ xs)) (λ c r. next (channels r) (λ cs r. Ok (c ∷ cs, r))))
    by true e = refl
    by false e = at (channel (b ∷ xs)) (channel_sees b xs (eqb-false b 0 e))

pub bound_never_decides : BoundNeverDecides
bound_never_decides = record { texts = texts_enough; channels = channels_enough }
