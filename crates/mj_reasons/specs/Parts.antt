-- Where a line of a listing, or of a file of steps, stops being one, byte by byte (this profile). A line is read from its front. Where a byte can't come next, or the
-- line ends, what is wanted there is said by where the line stands.
use Rattle.std.specs.Prelude.{ℕ, suc, ◌+◌, ◌-◌, ◌*◌, ◌==◌, nat_le, nat_lt, Bool, true, false, not, ◌&&◌, ◌||◌, if◌then◌else◌, List, [], ◌∷◌, Option, Some, None}
use Rattle.mj_reasons.specs.declared.part.Part.{Part}
use Rattle.mj_reasons.specs.declared.part.Part.TheVariants as part

-- ---- bytes

abbrev pub is_letter : ℕ → Bool
is_letter b = (nat_le 65 b && nat_le b 90) || (nat_le 97 b && nat_le b 122)

abbrev pub is_digit : ℕ → Bool
is_digit b = nat_le 48 b && nat_le b 57

-- a hexadecimal digit of lower case
abbrev pub is_hex : ℕ → Bool
is_hex b = is_digit b || (nat_le 97 b && nat_le b 102)

-- ---- what may come next

-- the part, if the byte is one that may come
abbrev pub then_part : Bool → Part → Option Part
then_part may next = if may then Some next else None

-- a word goes on, subscripts begin, or the value does
abbrev pub in_word : ℕ → Option Part
in_word b =
    if is_letter b || is_digit b then Some part.Letters else if b == 40 then Some part.Subscript else then_part (b == 61) part.Value

-- a subscript begins: a text in quotes, or a number. No other digit stands behind a first `0`; behind any other first digit at most 17 do
abbrev pub in_subscript : ℕ → Option Part
in_subscript b =
    if b == 34 then Some (part.Quoted false) else if b == 45 then Some part.Minus else if b == 48 then Some (part.Digits 0)
    else then_part (is_digit b) (part.Digits 17)

-- behind a subscript comes another, or the `)`
abbrev pub behind_subscript : ℕ → Option Part
behind_subscript b = if b == 44 then Some part.Subscript else then_part (b == 41) part.Closed

-- a number that may have so many digits more
abbrev pub in_number : ℕ → ℕ → Option Part
in_number more b = if not (is_digit b) then behind_subscript b else if more == 0 then None else Some (part.Digits (more - 1))

-- quotes: a quote, a `\`, or another byte of 32 to 126
abbrev pub in_quotes : Bool → ℕ → Option Part
in_quotes value b =
    if b == 34 then Some (part.Quote value) else if b == 92 then Some (part.Escape value) else then_part (nat_le 32 b && nat_lt b 127) (part.Quoted value)

-- a quote, behind which another one goes on; behind the value nothing else comes
abbrev pub behind_quote : Bool → ℕ → Option Part
behind_quote value b = if b == 34 then Some (part.Quoted value) else if value then None else behind_subscript b

-- a `\`, and behind it a second one or two hexadecimal digits
abbrev pub behind_escape : Bool → ℕ → Option Part
behind_escape value b = if b == 92 then Some (part.Quoted value) else then_part (is_hex b) (part.Hex value)

-- the number of a job, at most 255, and ` late`
abbrev pub in_step : ℕ → ℕ → Option Part
in_step number b =
    if not (is_digit b) then then_part (b == 32) (part.Late 1)
    else then_part (nat_le (number * 10 + (b - 48)) 255) (part.Number (number * 10 + (b - 48)))

abbrev pub in_late : ℕ → ℕ → Option Part
in_late count b =
    if count == 1 then then_part (b == 108) (part.Late 2)
    else if count == 2 then then_part (b == 97) (part.Late 3)
    else if count == 3 then then_part (b == 116) (part.Late 4)
    else if count == 4 then then_part (b == 101) (part.Late 5)
    else None

-- where a line stands behind one byte more, if that can come next
abbrev pub after : Part → ℕ → Option Part
after part.Caret b = then_part (b == 94) part.Word
after part.Word b = then_part (is_letter b || b == 37) part.Letters
after part.Letters b = in_word b
after part.Subscript b = in_subscript b
after part.Minus b = then_part (is_digit b && not (b == 48)) (part.Digits 17)
after (part.Digits more) b = in_number more b
after part.Closed b = then_part (b == 61) part.Value
after part.Value b = then_part (b == 34) (part.Quoted true)
after (part.Quoted value) b = in_quotes value b
after (part.Quote value) b = behind_quote value b
after (part.Escape value) b = behind_escape value b
after (part.Hex value) b = then_part (is_hex b) (part.Quoted value)
after part.Job b = then_part (is_digit b && not (b == 48)) (part.Number (b - 48))
after (part.Number number) b = in_step number b
after (part.Late count) b = in_late count b

-- ---- a line

-- how many bytes more were read, behind one
abbrev pub one_more : ℕ × Part → ℕ × Part
one_more x = (suc x.0, x.1)

-- how many bytes of a line are read, and where it stands behind them: all, or up to the first that can't come next
abbrev pub reached : Part → List ℕ → ℕ × Part
reached p [] = (0, p)
reached p (b ∷ bs) = elim (after p b) [ None ↦ (0, p) | Some next ↦ one_more (reached next bs) ]

-- a line may end there: behind the value, behind the number of a job, behind ` late`
abbrev pub is_whole : Part → Bool
is_whole (part.Quote value) = value
is_whole (part.Number number) = true
is_whole (part.Late count) = count == 5
is_whole _ = false
