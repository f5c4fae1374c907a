-- The table of what is asked of a session of a device: the word for it, and what the reply to it carries. Writing and reading have it from here. Behind the word
-- of what writes stand its bytes, behind any other the timeout, if there is one.
use Rattle.std.specs.Prelude.{◌≡◌, ℕ, ℤ, Bool, true, false, cond, if◌then◌else◌, List, Option, Some, None, codes, refl}
use Rattle.std.specs.List.{list_all}
use Rattle.std.specs.Char.{is_ascii_lowercase}
use Rattle.std.specs.Str.{bytes_eq}
use Rattle.mj_ask.specs.Fits.{is_device_reply, device_timeout}
use Rattle.mj_ask.specs.declared.ask.DeviceAsk.{DeviceAsk}
use Rattle.mj_ask.specs.declared.ask.DeviceAsk.TheVariants as device_asks
use Rattle.mj_ask.specs.declared.ask.Reply.TheVariants as replies
use Rattle.mj_trace.specs.declared.devices.Given.{Given}
use Rattle.mj_trace.specs.declared.devices.Given.TheVariants as givens

-- its word
abbrev pub device_word : DeviceAsk → List ℕ
device_word device_asks.Begin = codes "begin"
device_word (device_asks.Write bytes) = codes "write"
device_word (device_asks.Line timeout) = codes "line"
device_word (device_asks.Byte timeout) = codes "byte"
device_word device_asks.End = codes "end"

-- it writes
abbrev pub writes : DeviceAsk → Bool
writes (device_asks.Write bytes) = true
writes _ = false

-- what writes nothing, by its word and its timeout, if it has one
abbrev pub timed_ask : List ℕ → Option ℤ → Option DeviceAsk
timed_ask word timeout =
    if bytes_eq word (codes "begin") then Some device_asks.Begin
    else (if bytes_eq word (codes "end") then Some device_asks.End
    else (if bytes_eq word (codes "line") then Some (device_asks.Line timeout)
    else (if bytes_eq word (codes "byte") then Some (device_asks.Byte timeout) else None)))

-- what a reply to it carries that is no word
abbrev pub given_by : DeviceAsk → Given
given_by (device_asks.Line timeout) = givens.Text
given_by (device_asks.Byte timeout) = givens.Code
given_by _ = givens.Nothing

-- ---- laws of the table

-- its word has letters in lower case alone
pub word_letters : (a : DeviceAsk) → list_all is_ascii_lowercase (device_word a) ≡ true
word_letters device_asks.Begin = refl
word_letters _ = refl

-- it is found by its word and its timeout
pub word_back : (a : DeviceAsk) → writes a ≡ false → timed_ask (device_word a) (device_timeout a) ≡ Some a
word_back (device_asks.Write bytes) h = absurd cc
word_back _ h = refl

-- what is found writes nothing, and its timeout passes a test
abbrev pub AreTimed : (Option ℤ → Bool) → Option DeviceAsk → Type 0
AreTimed p None = Unit {0}
AreTimed p (Some a) = (writes a ≡ false) × (p (device_timeout a) ≡ true)

-- what is found by its word has the timeout that was given, or none
pub timed_alone : (p : Option ℤ → Bool) (word : List ℕ) (timeout : Option ℤ) → p None ≡ true → p timeout ≡ true → AreTimed p (timed_ask word timeout)
timed_alone p word timeout h k = by (bytes_eq word (codes "begin")) (bytes_eq word (codes "end")) (bytes_eq word (codes "line")) (bytes_eq word (codes "byte"))
  where
    by : (a b c d : Bool) → AreTimed p
        (cond a (Some device_asks.Begin) (cond b (Some device_asks.End) (cond c (Some (device_asks.Line timeout)) (cond d (Some (device_asks.Byte timeout)) None))))
    by true b c d = (refl, h)
    by false true c d = (refl, h)
    by false false true d = (refl, k)
    by false false false true = (refl, k)
    by false false false false = tt

-- a line is told only where a text is read, and a byte only where a code is
pub text_given : (a : DeviceAsk) (t : List ℕ) → is_device_reply a (replies.Line t) ≡ true → given_by a ≡ givens.Text
text_given (device_asks.Line timeout) t h = refl
text_given _ t h = absurd cc

pub code_given : (a : DeviceAsk) (b : ℕ) → is_device_reply a (replies.Byte b) ≡ true → given_by a ≡ givens.Code
code_given (device_asks.Byte timeout) b h = refl
code_given _ b h = absurd cc
