-- The listing of a sheet (document 01, "Each side of each edge", its last paragraphs): text as bytes of ASCII.
use Rattle.std.specs.Prelude.{ℕ, zero, suc, ◌+◌, ◌*◌, ◌/◌, ◌%◌, Bool, ◌&&◌, List, [], ◌∷◌, ◌++◌, leb, ltb, length}
use Rattle.listing.specs.Ascii.{ascii}
use Rattle.octets.specs.Bytes.{if◌then◌otherwise◌, put}
use Rattle.cipher.specs.Key.{key_bytes}
use Rattle.layout.specs.Layout.{slots, key_class, last_write, edition_of, mark_number, mark_length, mark, blank_slot, fit}

-- ---- words

-- "numbers are decimal": the digits of n, the highest first and none in front that is 0, where n has at most k digits
unfoldable pub digits : ℕ → ℕ → List ℕ
digits zero n = []
digits (suc k) n = if ltb n 10 then (48 + n) ∷ [] otherwise (digits k (n / 10) ++ ((48 + n % 10) ∷ []))

-- no number n has more than n + 1 digits
unfoldable pub decimal : ℕ → List ℕ
decimal n = digits (suc n) n

-- ---- lines

abbrev pub space : ℕ
space = 32

abbrev pub line_feed : ℕ
line_feed = 10

-- a word and the byte that stands after it
abbrev pub ended : List ℕ → ℕ → List ℕ
ended w b = w ++ (b ∷ [])

-- "one space stands between words, and each line ends with a line feed": the line of the word w and those that follow it
unfoldable pub line : List ℕ → List (List ℕ) → List ℕ
line w [] = ended w line_feed
line w (v ∷ vs) = ended w space ++ line v vs

-- "slot count, key bits and last number": the first line puts a word before each
unfoldable pub head_line : ℕ → ℕ → ℕ → List ℕ
head_line n bits last = line (ascii "slots") (decimal n ∷ ascii "key" ∷ decimal bits ∷ ascii "last" ∷ decimal last ∷ [])

unfoldable pub blank_line : ℕ → List ℕ
blank_line i = line (decimal i) (ascii "blank" ∷ [])

unfoldable pub written_line : ℕ → ℕ → ℕ → List ℕ
written_line i number len = line (decimal i) (ascii "written" ∷ decimal number ∷ decimal len ∷ [])

-- "for each slot its number and "blank", or "written", write number and length"
unfoldable pub slot_line : List ℕ → ℕ → List ℕ
slot_line s i =
    if blank_slot (edition_of s) s i then blank_line i
    otherwise written_line i (mark_number (mark (edition_of s) s i)) (mark_length (mark (edition_of s) s i))

-- the lines of the slots below n, in order
unfoldable pub slot_lines : List ℕ → ℕ → List ℕ
slot_lines s zero = []
slot_lines s (suc n) = slot_lines s n ++ slot_line s n

-- ---- the listing

-- the bits of the keys of the sheet's class
unfoldable pub key_bits : List ℕ → ℕ
key_bits s = 8 * key_bytes (key_class s)

-- a fit sheet of at most 53264 bytes, which 256 slots of edition 2 or 3 have; every other prints "unfit"
unfoldable pub listable : List ℕ → Bool
listable s = leb (length s) 53264 && fit s

unfoldable pub listing : List ℕ → List ℕ
listing s =
    if listable s then (head_line (slots s) (key_bits s) (last_write s) ++ slot_lines s (slots s))
    otherwise line (ascii "unfit") []

-- what a call answers and leaves in its output: the count of bytes listed, which stand at the start of the output;
-- where the listing does not fit, the count 0 and the output as it was
unfoldable pub listed : List ℕ → List ℕ → ℕ × List ℕ
listed s out =
    if leb (length (listing s)) (length out) then (length (listing s), put out 0 (listing s))
    otherwise (0, out)
