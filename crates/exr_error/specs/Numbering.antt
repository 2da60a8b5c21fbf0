-- The numbers of the refusals a second time, by their order: the laws that pin `number_of` and `stop_of`.
use Rattle.std.specs.Prelude.{◌≡◌, ℕ, ◌-◌, ◌||◌, List, [], ◌∷◌, map, is_some, ◌==◌, slice_index_or}
use Rattle.std.specs.Option.{unwrap_or}
use Rattle.exr_error.specs.Refusals.{number_of, stop_of}
use Rattle.exr_error.specs.declared.refusal.Refusal.{Refusal}
use Rattle.exr_error.specs.declared.refusal.Refusal.TheVariants.{InvalidName, InvalidKind, KnownKind, NegativeSize, TooLarge, MissingBytes, UnknownCode, UnknownCompression, InvalidChannelName, InvalidLength, BoxOutOfRange, InvalidSides, InvalidTimeCode, RepeatedName, TooManyAttributes, HeaderTooLarge, AbsentName, SourceEnded, SourceFailed, SinkFull, NoChannels, ZeroSampling, SamplingNotAllowed, SamplingPosition, SamplingSize, SamplingNotSupported, RepeatedChannel, ChannelOrder, InvalidTileSize, EmptyTextVector}

-- the refusals in the order in which they are listed, those with a stop at the stop s
abbrev pub in_order : ℕ → List Refusal
in_order s = InvalidName ∷ InvalidKind ∷ KnownKind ∷ NegativeSize ∷ TooLarge ∷ MissingBytes ∷ UnknownCode ∷ UnknownCompression ∷ InvalidChannelName ∷ InvalidLength ∷ BoxOutOfRange ∷ InvalidSides ∷ InvalidTimeCode ∷ RepeatedName ∷ TooManyAttributes ∷ HeaderTooLarge ∷ AbsentName ∷ SourceEnded ∷ SourceFailed s ∷ SinkFull s ∷ NoChannels ∷ ZeroSampling ∷ SamplingNotAllowed ∷ SamplingPosition ∷ SamplingSize ∷ SamplingNotSupported ∷ RepeatedChannel ∷ ChannelOrder ∷ InvalidTileSize ∷ EmptyTextVector ∷ []

pub record Numbered : Type 0 where
  -- in this order they have the numbers 1 to 30
  pub numbers : (s : ℕ) → map number_of (in_order s) ≡ 1 ∷ 2 ∷ 3 ∷ 4 ∷ 5 ∷ 6 ∷ 7 ∷ 8 ∷ 9 ∷ 10 ∷ 11 ∷ 12 ∷ 13 ∷ 14 ∷ 15 ∷ 16 ∷ 17 ∷ 18 ∷ 19 ∷ 20 ∷ 21 ∷ 22 ∷ 23 ∷ 24 ∷ 25 ∷ 26 ∷ 27 ∷ 28 ∷ 29 ∷ 30 ∷ []
  -- there is no other: each is the one that its number and its stop name
  pub complete : (r : Refusal) → slice_index_or (in_order (unwrap_or (stop_of r) 0)) (number_of r - 1) InvalidName ≡ r
  -- a stop is told with 19 and with 20, and with no other
  pub stops : (r : Refusal) → is_some (stop_of r) ≡ (number_of r == 19) || number_of r == 20
