-- The thirty refusals: the number, the layer, the variant in the Rust crate and the stop of each.
use Rattle.std.specs.Prelude.{ℕ, cond, ◌||◌, Some, None, Option, ◌==◌, nat_le}
use Rattle.exr_error.specs.declared.stop.Stop.{Stop}
use Rattle.exr_error.specs.declared.stop.Stop.TheVariants.{End, Device}
use Rattle.exr_error.specs.declared.stop.Full.{Full}
use Rattle.exr_error.specs.declared.refusal.Refusal.{Refusal}
use Rattle.exr_error.specs.declared.refusal.Refusal.TheVariants.{InvalidName, InvalidKind, KnownKind, NegativeSize, TooLarge, MissingBytes, UnknownCode, UnknownCompression, InvalidChannelName, InvalidLength, BoxOutOfRange, InvalidSides, InvalidTimeCode, RepeatedName, TooManyAttributes, HeaderTooLarge, AbsentName, SourceEnded, SourceFailed, SinkFull, NoChannels, ZeroSampling, SamplingNotAllowed, SamplingPosition, SamplingSize, SamplingNotSupported, RepeatedChannel, ChannelOrder, InvalidTileSize, EmptyTextVector}
use Rattle.exr_error.specs.declared.refusal.Layer.{Layer}
use Rattle.exr_error.specs.declared.refusal.Layer.TheVariants as layer
use Rattle.exr_error.specs.declared.refusal.Error.{Error}
use Rattle.exr_error.specs.declared.refusal.Error.TheVariants as error

-- the number of each case
abbrev pub number_of : Refusal → ℕ
number_of InvalidName = 1
number_of InvalidKind = 2
number_of KnownKind = 3
number_of NegativeSize = 4
number_of TooLarge = 5
number_of MissingBytes = 6
number_of UnknownCode = 7
number_of UnknownCompression = 8
number_of InvalidChannelName = 9
number_of InvalidLength = 10
number_of BoxOutOfRange = 11
number_of InvalidSides = 12
number_of InvalidTimeCode = 13
number_of RepeatedName = 14
number_of TooManyAttributes = 15
number_of HeaderTooLarge = 16
number_of AbsentName = 17
number_of SourceEnded = 18
number_of (SourceFailed s) = 19
number_of (SinkFull s) = 20
number_of NoChannels = 21
number_of ZeroSampling = 22
number_of SamplingNotAllowed = 23
number_of SamplingPosition = 24
number_of SamplingSize = 25
number_of SamplingNotSupported = 26
number_of RepeatedChannel = 27
number_of ChannelOrder = 28
number_of InvalidTileSize = 29
number_of EmptyTextVector = 30

-- the layer of a number: record for 1 to 5, value for 6 to 13 and 21 to 30, header for 14 to 17, device for 18 to 20
abbrev pub layer_of : ℕ → Layer
layer_of n = cond (nat_le n 5) layer.Record (cond (nat_le n 13) layer.Value (cond (nat_le n 17) layer.Header (cond (nat_le n 20) layer.Device layer.Value)))

-- the variant in the Rust crate: NotSupported for 8 and 26, Io for 19 and 20, Invalid for the others
abbrev pub error_of : ℕ → Error
error_of n = cond (n == 8 || n == 26) error.NotSupported (cond (n == 19 || n == 20) error.Io error.Invalid)

-- the stop that a refusal tells: with 19 and 20 only
abbrev pub stop_of : Refusal → Option ℕ
stop_of (SourceFailed s) = Some s
stop_of (SinkFull s) = Some s
stop_of _ = None

-- how a source that stops is answered
abbrev pub ended : Stop → Refusal
ended End = SourceEnded
ended (Device d) = SourceFailed d

-- how a sink that takes no more is answered
abbrev pub sink_full : Full → Refusal
sink_full f = SinkFull f.number
