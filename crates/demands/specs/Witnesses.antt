-- Demand 3 at work: the model on some calls, a run on a sheet in which an answer depends on the call before, strangers of each number, and sheets for PRESENT.
use Rattle.std.specs.Prelude.{ℕ, ◌≡◌, List, [], ◌∷◌, replicate, take}
use Rattle.octets.specs.Bytes.{zeros}
use Rattle.layout.specs.Layout.{slots, blank_sheet}
use Rattle.captions.specs.Captions.{Keys, pair, key_mark}
use Rattle.captions.specs.Calls.{blanking}
use Rattle.captions.specs.Runs.{Reply, replies, finally}
use Rattle.captions.specs.Model.{Call, writes, clears, blank, holds, Model, new_model, page, model_step}
use Rattle.captions.specs.Turns.{Turn, own, stranger, own_calls, EachStranger, turn_model}
use Rattle.captions.specs.Claim.{Captions}
use Rattle.exhibits.specs.Values.{keys, abc, nearly_worn, worn_one}
use Rattle.demands.specs.Ciphers.{by_paths}
use Rattle.demands.specs.Steps.{Gives, key_refusal, turn_step, Stranger}
use Rattle.demands.specs.Premises.{ByBlanking}

-- number n and length 0
abbrev pub says : ℕ → Reply
says n = record { number = n; len = 0 }

-- ---- the model: seven calls on two pages, two on a page that nears its last write, and four on a worn one

abbrev pub seven_calls : List Call
seven_calls =
    writes 0 (1 ∷ []) ∷ writes 1 (2 ∷ []) ∷ writes 0 (3 ∷ []) ∷ clears 1 ∷ writes 2 [] ∷ clears 2 ∷ writes 0 (zeros 193) ∷ []

abbrev pub worn_model : Model
worn_model = record { pages = blank ∷ []; count = 4294967295 }

abbrev pub broken_calls : List Call
broken_calls = writes 0 (0xC3 ∷ []) ∷ writes 0 (replicate 193 0xC3) ∷ writes 1 (0xC3 ∷ []) ∷ writes 0 (0xC3 ∷ 0xA9 ∷ []) ∷ []

pub record ModelRun : Type 0 where
  pub answers : replies model_step seven_calls (new_model 2) ≡ says 0 ∷ says 0 ∷ says 0 ∷ says 0 ∷ says 6 ∷ says 6 ∷ says 7 ∷ []
  pub first : page (finally model_step seven_calls (new_model 2)) 0 ≡ holds (3 ∷ [])
  pub second : page (finally model_step seven_calls (new_model 2)) 1 ≡ blank
  pub count : (finally model_step seven_calls (new_model 2)).count ≡ 3
  pub worn : replies model_step (writes 0 [] ∷ writes 0 [] ∷ []) (record { pages = blank ∷ []; count = 4294967294 }) ≡ says 0 ∷ says 8 ∷ []
  -- on the worn one: a letter that is cut off, 193 first bytes, the letter in a slot that there isn't, and a letter that is whole
  pub broken : finally model_step broken_calls worn_model ≡ worn_model
  pub broken_answers : replies model_step broken_calls worn_model ≡ says 15 ∷ says 7 ∷ says 6 ∷ says 8 ∷ []

-- ---- the same two calls on a sheet after 4294967294 writes: the second finds what the first left

pub record WornRun : Type 0 where
  pub answers : (p : ℕ) → replies (turn_step p keys) (own (writes 0 abc) ∷ own (writes 0 abc) ∷ []) nearly_worn ≡ says 0 ∷ says 8 ∷ []
  pub after : (p : ℕ) → finally (turn_step p keys) (own (writes 0 abc) ∷ own (writes 0 abc) ∷ []) nearly_worn ≡ worn_one

-- ---- strangers of each number, on a sheet that blanking makes with a pair of zeros and ones

abbrev pub first_pair : Keys
first_pair = pair (zeros 8) (replicate 8 1)

-- a write of the pair's, writes under keys of 7 bytes, under twins, under keys of 12 bytes, and under the pair exchanged, then a clear and a write of the pair's
abbrev pub seven_turns : List Turn
seven_turns =
    own (writes 0 (1 ∷ []))
    ∷ stranger (pair (zeros 7) (replicate 7 1)) 0 (2 ∷ [])
    ∷ stranger (pair (zeros 8) (zeros 8)) 0 (3 ∷ [])
    ∷ stranger (pair (zeros 12) (replicate 12 1)) 0 (4 ∷ [])
    ∷ stranger (pair (replicate 8 1) (zeros 8)) 256 (replicate 193 0xC3)
    ∷ own (clears 1)
    ∷ own (writes 1 (5 ∷ []))
    ∷ []

-- the sheet
abbrev pub strangers_sheet : List ℕ
strangers_sheet = blank_sheet 2 4 0x5a04 (0x91 ∷ 0xa0 ∷ 0x8f ∷ 0x35 ∷ 0x74 ∷ 0x63 ∷ [])

pub record StrangersMet (s : List ℕ) : Type 0 where
  pub blanked : Gives (blanking first_pair (zeros 432) 2 4 0x5a04) 0 0 s
  pub sheet : ByBlanking first_pair s
  pub captions : Captions (own_calls seven_turns)
  pub each : EachStranger (Stranger s) seven_turns
  pub answers : replies (turn_model (λ k'. key_refusal k' s)) seven_turns (new_model (slots s)) ≡ says 0 ∷ says 1 ∷ says 2 ∷ says 5 ∷ says 14 ∷ says 0 ∷ says 0 ∷ []
  -- the strangers are left out of the book: page 0 holds what the pair wrote, and the count is 2
  pub page_0 : page (finally model_step (own_calls seven_turns) (new_model (slots s))) 0 ≡ holds (1 ∷ [])
  pub count : (finally model_step (own_calls seven_turns) (new_model (slots s))).count ≡ 2
  -- the marks of the pair and of the pair exchanged, as the second program computes them
  pub mark : key_mark (by_paths 4 0 0 first_pair) 2 4 0x5a04 ≡ 0x91 ∷ 0xa0 ∷ 0x8f ∷ 0x35 ∷ 0x74 ∷ 0x63 ∷ []
  pub exchanged : key_mark (by_paths 4 0 0 (pair (replicate 8 1) (zeros 8))) 2 4 0x5a04 ≡ 0x3b ∷ 0x5a ∷ 0x0e ∷ 0x51 ∷ 0xac ∷ 0x7c ∷ []

-- ---- sheets that blanking makes for PRESENT, with a pair of bytes that all differ

abbrev pub rising_pair : ℕ → Keys
rising_pair n = pair (take n (0 ∷ 1 ∷ 2 ∷ 3 ∷ 4 ∷ 5 ∷ 6 ∷ 7 ∷ 8 ∷ 9 ∷ 10 ∷ 11 ∷ 12 ∷ 13 ∷ 14 ∷ 15 ∷ []))
    (take n (16 ∷ 17 ∷ 18 ∷ 19 ∷ 20 ∷ 21 ∷ 22 ∷ 23 ∷ 24 ∷ 25 ∷ 26 ∷ 27 ∷ 28 ∷ 29 ∷ 30 ∷ 31 ∷ []))

-- t is 21 or 24, the keys have n bytes, and m is the key mark, as the second program computes it
pub record PresentMet (t n : ℕ) (m : List ℕ) : Type 0 where
  pub blanked : Gives (blanking (rising_pair n) (zeros 432) 2 t 0x5a04) 0 0 (blank_sheet 2 t 0x5a04 m)
  pub sheet : ByBlanking (rising_pair n) (blank_sheet 2 t 0x5a04 m)

pub record Witnesses : Type 0 where
  pub model : ModelRun
  pub worn : WornRun
  pub strangers : StrangersMet strangers_sheet
  pub present_80 : PresentMet 21 10 (0x48 ∷ 0x66 ∷ 0x69 ∷ 0x8a ∷ 0x92 ∷ 0xf4 ∷ [])
  pub present_128 : PresentMet 24 16 (0xe1 ∷ 0xc0 ∷ 0x00 ∷ 0x76 ∷ 0x23 ∷ 0x38 ∷ [])
