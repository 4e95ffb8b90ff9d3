-- What C gets under each name: what the contract of each exported function allows on an accepted and on a refused call in plain values. The contracts are quoted as a caller learns
-- them (`Learnt`), and they are made from specs/: so this statement stands here.
use Prim.Native.Nat.{ℕ}
use mathlib.Core.Path.{◌≡◌, ap, ◌∙◌}
use mathlib.Core.List.{List, [], ◌∷◌, ◌++◌}
use lib.ListN.{replicate}
use contract.Lifetimes.{Lfts}
use denote.Ref.{Bor}
use denote.MutBor.{MutBor}
use Rattle.octets.specs.Bytes.{zeros}
use Rattle.octets.specs.Outcome as Blocks
use Rattle.text.specs.Place.{broken_at}
use Rattle.text.proofs.Laws.{text_laws}
use Rattle.mcrypton.specs.Calls.{encrypting, decrypting}
use Rattle.mcrypton.specs.Vectors.{key4}
use Rattle.present.specs.Calls.{encrypting as present_encrypting, decrypting as present_decrypting}
use Rattle.present.proofs.Refusals.{block_refusals as present_refusals}
use Rattle.chip_bench.specs.Calls.{benching}
use Rattle.modes.specs.Answers.{authenticating}
use Rattle.panels.specs.Calls.{panelling}
use Rattle.panels.specs.Laws.{bronze_age}
use Rattle.panels.proofs.Laws.{panels}
use Rattle.captions.specs.Answers as Sheets
use Rattle.captions.specs.Captions.{pair}
use Rattle.captions.specs.Calls.{blanking, writing, clearing, reading}
use Rattle.dated.specs.Calls.{dating}
use Rattle.calendar.specs.Calendar.{DayOutcome, DateOutcome, day_of_date, date_of_day}
use Rattle.points.specs.Pointed.{pointed_outcome}
use Rattle.points.specs.declared.Pointed.{Pointed}
use Rattle.listing.specs.Ascii.{ascii}
use Rattle.listing.specs.Listing.{listed}
use Rattle.running_order.specs.Calls.{ordering}
use Rattle.running_order.specs.Example.{example_sheet, example_terms}
use Rattle.running_order.proofs.Example.{exhibited}
use Rattle.exhibits.specs.Values.{sealing_key, checking_key, block, encrypted_block, decrypted_block, wanted, leading, abc, abc_check, new_sheet, blank_one, written_one, fifth_day}
use Rattle.exhibits.proofs.Exhibits.{exhibits}
use Rattle.captions_c.specs.Answer.{crossed, plain, day_crossed, date_crossed}
use Rattle.captions_c.specs.declared.Answer.{Answer}
use Rattle.captions_c.specs.declared.Day.{Day}
use Rattle.captions_c.specs.declared.Date.{Date}
use Rattle.captions_c.proofs.captions_encrypt_block.Reads as captions_encrypt_block
use Rattle.captions_c.proofs.captions_decrypt_block.Reads as captions_decrypt_block
use Rattle.captions_c.proofs.captions_present_encrypt_block.Reads as captions_present_encrypt_block
use Rattle.captions_c.proofs.captions_present_decrypt_block.Reads as captions_present_decrypt_block
use Rattle.captions_c.proofs.captions_bench_block.Reads as captions_bench_block
use Rattle.captions_c.proofs.captions_cmac.Reads as captions_cmac
use Rattle.captions_c.proofs.captions_panel.Reads as captions_panel
use Rattle.captions_c.proofs.captions_blank.Reads as captions_blank
use Rattle.captions_c.proofs.captions_write.Reads as captions_write
use Rattle.captions_c.proofs.captions_clear.Reads as captions_clear
use Rattle.captions_c.proofs.captions_read.Reads as captions_read
use Rattle.captions_c.proofs.captions_dated_read.Reads as captions_dated_read
use Rattle.captions_c.proofs.captions_day_of_date.Reads as captions_day_of_date
use Rattle.captions_c.proofs.captions_date_of_day.Reads as captions_date_of_day
use Rattle.captions_c.proofs.captions_broken_at.Reads as captions_broken_at
use Rattle.captions_c.proofs.captions_list.Reads as captions_list
use Rattle.captions_c.proofs.captions_running_order.Reads as captions_running_order

-- ---- the contracts, as relations between what is lent, the answer, and what was lent as it is after the call

-- bytes that are lent: a contract speaks of what stands behind a reference, and not of where
abbrev pub lent : List ℕ → Bor (List ℕ)
lent bytes = record { ref_ptr = (0, 0); now = bytes }

-- bytes that are lent to be written
abbrev pub lent_mut : List ℕ → MutBor (List ℕ)
lent_mut bytes = record { ref_ptr = (0, 0); ghost_name = 0; now = bytes }

-- nor of lifetimes
abbrev pub two : Lfts 2
two = ([], ([], tt))

abbrev pub three : Lfts 3
three = ([], two)

abbrev pub four : Lfts 4
four = ([], three)

abbrev pub five : Lfts 5
five = ([], four)

abbrev pub Encrypts : List ℕ → List ℕ → ℕ → List ℕ → Answer → List ℕ → Type 0
Encrypts key b path out r after =
    captions_encrypt_block.Learnt three (lent key, (lent b, (path, (lent_mut out, tt)))) r (lent key, (lent b, (path, (lent_mut after, tt))))

abbrev pub Decrypts : List ℕ → List ℕ → ℕ → List ℕ → Answer → List ℕ → Type 0
Decrypts key b path out r after =
    captions_decrypt_block.Learnt three (lent key, (lent b, (path, (lent_mut out, tt)))) r (lent key, (lent b, (path, (lent_mut after, tt))))

abbrev pub EncryptsPresent : List ℕ → List ℕ → List ℕ → Answer → List ℕ → Type 0
EncryptsPresent key b out r after = captions_present_encrypt_block.Learnt three (lent key, (lent b, (lent_mut out, tt))) r (lent key, (lent b, (lent_mut after, tt)))

abbrev pub DecryptsPresent : List ℕ → List ℕ → List ℕ → Answer → List ℕ → Type 0
DecryptsPresent key b out r after = captions_present_decrypt_block.Learnt three (lent key, (lent b, (lent_mut out, tt))) r (lent key, (lent b, (lent_mut after, tt)))

abbrev pub Benches : List ℕ → ℕ → List ℕ → List ℕ → Answer → List ℕ → Type 0
Benches key round array out r after =
    captions_bench_block.Learnt three (lent key, (round, (lent array, (lent_mut out, tt)))) r (lent key, (round, (lent array, (lent_mut after, tt))))

abbrev pub Checks : List ℕ → List ℕ → List ℕ → Answer → List ℕ → Type 0
Checks key message out r after = captions_cmac.Learnt three (lent key, (lent message, (lent_mut out, tt))) r (lent key, (lent message, (lent_mut after, tt)))

abbrev pub SealsPanel : List ℕ → ℕ → List ℕ → List ℕ → Answer → List ℕ → Type 0
SealsPanel key first panel out r after =
    captions_panel.Learnt three (lent key, (first, (lent panel, (lent_mut out, tt)))) r (lent key, (first, (lent panel, (lent_mut after, tt))))

abbrev pub Blanks : List ℕ → ℕ → ℕ → ℕ → List ℕ → List ℕ → Answer → List ℕ → Type 0
Blanks sheet slots class serial sealing checking r after =
    captions_blank.Learnt three (lent_mut sheet, (slots, (class, (serial, (lent sealing, (lent checking, tt)))))) r
    (lent_mut after, (slots, (class, (serial, (lent sealing, (lent checking, tt))))))

abbrev pub Writes : List ℕ → List ℕ → List ℕ → ℕ → List ℕ → Pointed → List ℕ → Type 0
Writes sealing checking sheet slot caption r after =
    captions_write.Learnt four (lent sealing, (lent checking, (lent_mut sheet, (slot, (lent caption, tt))))) r
    (lent sealing, (lent checking, (lent_mut after, (slot, (lent caption, tt)))))

abbrev pub Clears : List ℕ → ℕ → Answer → List ℕ → Type 0
Clears sheet slot r after = captions_clear.Learnt ([], tt) (lent_mut sheet, (slot, tt)) r (lent_mut after, (slot, tt))

abbrev pub FindsBreak : List ℕ → ℕ → Type 0
FindsBreak text r = captions_broken_at.Learnt ([], tt) (lent text, tt) r (lent text, tt)

abbrev pub Reads : List ℕ → List ℕ → List ℕ → ℕ → List ℕ → Pointed → List ℕ → Type 0
Reads sealing checking sheet slot window r after =
    captions_read.Learnt four (lent sealing, (lent checking, (lent sheet, (slot, (lent_mut window, tt))))) r
    (lent sealing, (lent checking, (lent sheet, (slot, (lent_mut after, tt)))))

abbrev pub ReadsOn : List ℕ → List ℕ → List ℕ → List ℕ → ℕ → ℕ → List ℕ → Pointed → List ℕ → Type 0
ReadsOn sealing checking sheet terms slot day window r after =
    captions_dated_read.Learnt five (lent sealing, (lent checking, (lent sheet, (lent terms, (slot, (day, (lent_mut window, tt))))))) r
    (lent sealing, (lent checking, (lent sheet, (lent terms, (slot, (day, (lent_mut after, tt)))))))

abbrev pub NumbersDay : ℕ → ℕ → ℕ → Day → Type 0
NumbersDay year month day r = captions_day_of_date.Learnt tt (year, (month, (day, tt))) r (year, (month, (day, tt)))

abbrev pub DatesDay : ℕ → Date → Type 0
DatesDay day r = captions_date_of_day.Learnt tt (day, tt) r (day, tt)

abbrev pub Lists : List ℕ → List ℕ → ℕ → List ℕ → Type 0
Lists sheet out r after = captions_list.Learnt two (lent sheet, (lent_mut out, tt)) r (lent sheet, (lent_mut after, tt))

abbrev pub Orders : List ℕ → List ℕ → List ℕ → List ℕ → Answer → List ℕ → Type 0
Orders sheet terms date out r after =
    captions_running_order.Learnt four (lent sheet, (lent terms, (lent date, (lent_mut out, tt)))) r (lent sheet, (lent terms, (lent date, (lent_mut after, tt))))

-- ---- the statement

-- every call: its contract is the equation with the definition of that name
pub record Equations : Type 0 where
  pub encrypt : (key b : List ℕ) (path : ℕ) (out : List ℕ) (r : Answer) (after : List ℕ) → Encrypts key b path out r after → crossed r after ≡ encrypting path key b out
  pub decrypt : (key b : List ℕ) (path : ℕ) (out : List ℕ) (r : Answer) (after : List ℕ) → Decrypts key b path out r after → crossed r after ≡ decrypting path key b out
  pub present_encrypt_lem : (key b out : List ℕ) (r : Answer) (after : List ℕ) → EncryptsPresent key b out r after → crossed r after ≡ present_encrypting key b out
  pub present_decrypt_lem : (key b out : List ℕ) (r : Answer) (after : List ℕ) → DecryptsPresent key b out r after → crossed r after ≡ present_decrypting key b out
  pub bench : (key : List ℕ) (round : ℕ) (array out : List ℕ) (r : Answer) (after : List ℕ) → Benches key round array out r after → crossed r after ≡ benching key round array out
  pub cmac : (key message out : List ℕ) (r : Answer) (after : List ℕ) → Checks key message out r after → crossed r after ≡ authenticating key message out
  pub panel : (key : List ℕ) (first : ℕ) (x out : List ℕ) (r : Answer) (after : List ℕ) → SealsPanel key first x out r after → crossed r after ≡ panelling key first x out
  pub blank : (s : List ℕ) (n t v : ℕ) (sealing checking : List ℕ) (r : Answer) (after : List ℕ) → Blanks s n t v sealing checking r after
      → crossed r after ≡ plain (blanking (pair sealing checking) s n t v)
  pub write : (sealing checking s : List ℕ) (i : ℕ) (c : List ℕ) (r : Pointed) (after : List ℕ) → Writes sealing checking s i c r after
      → pointed_outcome r after ≡ writing (pair sealing checking) s i c
  pub clear : (s : List ℕ) (i : ℕ) (r : Answer) (after : List ℕ) → Clears s i r after → crossed r after ≡ plain (clearing s i)
  pub read : (sealing checking s : List ℕ) (i : ℕ) (window : List ℕ) (r : Pointed) (after : List ℕ) → Reads sealing checking s i window r after
      → pointed_outcome r after ≡ reading (pair sealing checking) s i window
  pub dated_read : (sealing checking s t : List ℕ) (i day : ℕ) (window : List ℕ) (r : Pointed) (after : List ℕ) → ReadsOn sealing checking s t i day window r after
      → pointed_outcome r after ≡ (dating (pair sealing checking) s t i day window).outcome
  pub day_of_date_lem : (y m d : ℕ) (r : Day) → NumbersDay y m d r → day_crossed r ≡ day_of_date y m d
  pub date_of_day_lem : (n : ℕ) (r : Date) → DatesDay n r → date_crossed r ≡ date_of_day n
  pub list : (s out : List ℕ) (r : ℕ) (after : List ℕ) → Lists s out r after → (r, after) ≡ listed s out
  pub broken_at_lem : (text : List ℕ) (r : ℕ) → FindsBreak text r → r ≡ broken_at text

abbrev pub answer : ℕ → ℕ → Answer
answer number length = record { number = number; length = length }

-- number, rule, length, slot and place
abbrev pub pointed : ℕ → ℕ → ℕ → ℕ → ℕ → Pointed
pointed number rule length slot place = record { number = number; rule = rule; length = length; slot = slot; place = place }

-- and in plain values
pub record Names : Type 0 where
  -- a block of the second program's, and a key of 7 bytes
  pub encrypts : (r : Answer) (after : List ℕ) → Encrypts sealing_key block 0 (zeros 8) r after → (r ≡ answer 0 0) × (after ≡ encrypted_block)
  pub encrypts_not : (out : List ℕ) (r : Answer) (after : List ℕ) → Encrypts (zeros 7) block 0 out r after → (r ≡ answer 1 0) × (after ≡ out)
  pub decrypts : (r : Answer) (after : List ℕ) → Decrypts sealing_key block 0 (zeros 8) r after → (r ≡ answer 0 0) × (after ≡ decrypted_block)
  pub decrypts_not : (out : List ℕ) (r : Answer) (after : List ℕ) → Decrypts (zeros 7) block 0 out r after → (r ≡ answer 1 0) × (after ≡ out)
  -- zeros under ten zeros, and ones under sixteen zeros, of PRESENT's authors; a key of 12 bytes, and an output of 7
  pub encrypts_present : (r : Answer) (after : List ℕ) → EncryptsPresent (zeros 10) (zeros 8) (zeros 8) r after
      → (r ≡ answer 0 0) × (after ≡ 0x55 ∷ 0x79 ∷ 0xC1 ∷ 0x38 ∷ 0x7B ∷ 0x22 ∷ 0x84 ∷ 0x45 ∷ [])
  pub encrypts_present_not : (r : Answer) (after : List ℕ) → EncryptsPresent (zeros 12) (zeros 8) (replicate 8 5) r after → (r ≡ answer 1 0) × (after ≡ replicate 8 5)
  pub decrypts_present : (r : Answer) (after : List ℕ) → DecryptsPresent (zeros 16) (0x3C ∷ 0x60 ∷ 0x19 ∷ 0xE5 ∷ 0xE5 ∷ 0xED ∷ 0xD5 ∷ 0x63 ∷ []) (zeros 8) r after
      → (r ≡ answer 0 0) × (after ≡ 0xFF ∷ 0xFF ∷ 0xFF ∷ 0xFF ∷ 0xFF ∷ 0xFF ∷ 0xFF ∷ 0xFF ∷ [])
  pub decrypts_present_not : (r : Answer) (after : List ℕ) → DecryptsPresent (zeros 16) (zeros 8) (replicate 7 5) r after → (r ≡ answer 3 0) × (after ≡ replicate 7 5)
  -- an array after round 1, and round 13
  pub benches : (r : Answer) (after : List ℕ) → Benches checking_key 1 wanted (zeros 8) r after → (r ≡ answer 0 0) × (after ≡ leading)
  pub benches_not : (r : Answer) (after : List ℕ) → Benches checking_key 13 wanted (zeros 8) r after → (r ≡ answer 13 0) × (after ≡ zeros 8)
  -- the CMAC of "abc", and an output of 7 bytes
  pub checks : (r : Answer) (after : List ℕ) → Checks sealing_key abc (zeros 8) r after → (r ≡ answer 0 0) × (after ≡ abc_check)
  pub checks_not : (r : Answer) (after : List ℕ) → Checks sealing_key abc (zeros 7) r after → (r ≡ answer 3 0) × (after ≡ zeros 7)
  -- a panel across the wrap, and a key of 9 bytes
  pub seals_panel : (r : Answer) (after : List ℕ) → SealsPanel key4 0xffffffffffffffff bronze_age (zeros 11) r after
      → (r ≡ answer 0 0) × (after ≡ 0x3e ∷ 0x5b ∷ 0xf6 ∷ 0xb1 ∷ 0x9b ∷ 0x65 ∷ 0xdd ∷ 0x4e ∷ 0xe9 ∷ 0xf6 ∷ 0xf7 ∷ [])
  pub seals_panel_not : (first : ℕ) (r : Answer) (after : List ℕ) → SealsPanel (zeros 9) first (zeros 65537) (replicate 7 5) r after → (r ≡ answer 1 0) × (after ≡ replicate 7 5)
  -- one slot, t = 4, serial 258; twin keys
  pub blanks : (r : Answer) (after : List ℕ) → Blanks (replicate 224 7) 1 4 258 sealing_key checking_key r after → (r ≡ answer 0 0) × (after ≡ new_sheet)
  pub blanks_not : (s : List ℕ) (r : Answer) (after : List ℕ) → Blanks s 1 4 258 sealing_key sealing_key r after → (r ≡ answer 2 0) × (after ≡ s)
  -- "abc" into slot 0, a caption of 193 bytes, and a letter that is cut off
  pub writes : (r : Pointed) (after : List ℕ) → Writes sealing_key checking_key blank_one 0 abc r after → (r ≡ pointed 0 0 0 0 0) × (after ≡ written_one)
  pub writes_not : (r : Pointed) (after : List ℕ) → Writes sealing_key checking_key blank_one 0 (zeros 193) r after → (r ≡ pointed 7 0 0 0 0) × (after ≡ blank_one)
  pub writes_broken : (r : Pointed) (after : List ℕ) → Writes sealing_key checking_key blank_one 0 (0xC3 ∷ []) r after → (r ≡ pointed 15 0 0 0 0) × (after ≡ blank_one)
  -- slot 0, which leaves its 208 bytes zero, and slot 1, which there isn't
  pub clears : (r : Answer) (after : List ℕ) → Clears written_one 0 r after → (r ≡ answer 0 0) × (after ≡ 0 ∷ 1 ∷ 4 ∷ 1 ∷ 0 ∷ 0 ∷ 0 ∷ 1 ∷ zeros 208)
  pub clears_not : (r : Answer) (after : List ℕ) → Clears written_one 1 r after → (r ≡ answer 6 0) × (after ≡ written_one)
  -- "abc", and a blank slot
  pub reads : (r : Pointed) (after : List ℕ) → Reads sealing_key checking_key written_one 0 (replicate 192 7) r after → (r ≡ pointed 0 0 3 0 0) × (after ≡ abc ++ zeros 189)
  pub reads_not : (r : Pointed) (after : List ℕ) → Reads sealing_key checking_key blank_one 0 (replicate 192 7) r after → (r ≡ pointed 9 0 0 0 0) × (after ≡ zeros 192)
  -- "abc" on its one day, the day after, and no terms
  pub reads_on : (r : Pointed) (after : List ℕ) → ReadsOn sealing_key checking_key written_one fifth_day 0 5 (replicate 192 7) r after → (r ≡ pointed 0 0 3 0 0) × (after ≡ abc ++ zeros 189)
  pub reads_on_not : (r : Pointed) (after : List ℕ) → ReadsOn sealing_key checking_key written_one fifth_day 0 6 (replicate 192 7) r after → (r ≡ pointed 12 0 0 0 0) × (after ≡ zeros 192)
  pub reads_on_no_terms : (r : Pointed) (after : List ℕ) → ReadsOn sealing_key checking_key written_one [] 0 5 (replicate 192 7) r after → (r ≡ pointed 4 12 0 0 0) × (after ≡ zeros 192)
  -- 29 February of 2000 and of 2001; day 59, and a day after the last
  pub numbers_day : (r : Day) → NumbersDay 2000 2 29 r → r ≡ record { number = 0; day = 59 }
  pub numbers_day_not : (r : Day) → NumbersDay 2001 2 29 r → r ≡ record { number = 11; day = 0 }
  pub dates_day : (r : Date) → DatesDay 59 r → r ≡ record { number = 0; year = 2000; month = 2; day = 29 }
  pub dates_day_not : (r : Date) → DatesDay 36525 r → r ≡ record { number = 11; year = 0; month = 0; day = 0 }
  -- the sheet with "abc" in it, and an output that is too small
  pub lists : (r : ℕ) (after : List ℕ) → Lists written_one (zeros 40) r after → (r ≡ 36) × (after ≡ ascii "slots 1 key 64 last 1\n0 written 1 3\n" ++ zeros 4)
  pub lists_not : (r : ℕ) (after : List ℕ) → Lists written_one (zeros 35) r after → (r ≡ 0) × (after ≡ zeros 35)
  -- a letter that is cut off at the end, one that is overlong by its second byte, and a text that is whole
  pub finds_cut : (r : ℕ) → FindsBreak (0x41 ∷ 0xC3 ∷ []) r → r ≡ 2
  pub finds_overlong : (r : ℕ) → FindsBreak (0xE0 ∷ 0x9F ∷ 0xBF ∷ []) r → r ≡ 1
  pub finds_none : (r : ℕ) → FindsBreak (0x41 ∷ 0xE2 ∷ 0x89 ∷ 0xA2 ∷ 0xCE ∷ 0x91 ∷ 0x2E ∷ []) r → r ≡ 7

-- ---- its proof: the contract's equation, and what its right side comes to

crossed_is : (r : Answer) (after : List ℕ) (o : Blocks.Outcome) → crossed r after ≡ o → (r ≡ answer o.number o.len) × (after ≡ o.bytes)
crossed_is r after o e = (ap (λ (o : Blocks.Outcome). answer o.number o.len) e, ap (λ (o : Blocks.Outcome). o.bytes) e)

pointed_is : (r : Pointed) (after : List ℕ) (o : Sheets.Outcome) → pointed_outcome r after ≡ o
    → (r ≡ pointed o.number o.points.rule o.len o.points.slot o.points.place) × (after ≡ o.bytes)
pointed_is r after o e =
    (ap (λ (o : Sheets.Outcome). pointed o.number o.points.rule o.len o.points.slot o.points.place) e, ap (λ (o : Sheets.Outcome). o.bytes) e)

day_is : (r : Day) (o : DayOutcome) → day_crossed r ≡ o → r ≡ record { number = o.number; day = o.day }
day_is r o e = ap (λ (o : DayOutcome). record { number = o.number; day = o.day }) e

date_is : (r : Date) (o : DateOutcome) → date_crossed r ≡ o → r ≡ record { number = o.number; year = o.year; month = o.month; day = o.day }
date_is r o e = ap (λ (o : DateOutcome). record { number = o.number; year = o.year; month = o.month; day = o.day }) e

listed_is : (r : ℕ) (after : List ℕ) (o : ℕ × List ℕ) → ◌≡◌ {A = ℕ × List ℕ} (r, after) o → (r ≡ o.0) × (after ≡ o.1)
listed_is r after o e = (ap (λ (o : ℕ × List ℕ). o.0) e, ap (λ (o : ℕ × List ℕ). o.1) e)

pub equations : Equations
equations =
    record {
      encrypt = λ key b path out r after h. h;
      decrypt = λ key b path out r after h. h;
      present_encrypt_lem = λ key b out r after h. h;
      present_decrypt_lem = λ key b out r after h. h;
      bench = λ key round array out r after h. h;
      cmac = λ key message out r after h. h;
      panel = λ key first x out r after h. h;
      blank = λ s n t v sealing checking r after h. h;
      write = λ sealing checking s i c r after h. h;
      clear = λ s i r after h. h;
      read = λ sealing checking s i window r after h. h;
      dated_read = λ sealing checking s t i day window r after h. h;
      day_of_date_lem = λ y m d r h. h;
      date_of_day_lem = λ n r h. h;
      list = λ s out r after h. h;
      broken_at_lem = λ text r h. h;
    }

pub names : Names
names =
    record {
      encrypts = λ r after h. crossed_is r after _ (h ∙ exhibits.encrypted);
      encrypts_not = λ out r after h. crossed_is r after _ (h ∙ exhibits.not_encrypted out);
      decrypts = λ r after h. crossed_is r after _ (h ∙ exhibits.decrypted);
      decrypts_not = λ out r after h. crossed_is r after _ (h ∙ exhibits.not_decrypted out);
      encrypts_present = λ r after h. crossed_is r after _ (h ∙ present_refusals.calls.encrypt_80);
      encrypts_present_not = λ r after h. crossed_is r after _ (h ∙ present_refusals.calls.encrypt_key_12);
      decrypts_present = λ r after h. crossed_is r after _ (h ∙ present_refusals.calls.decrypt_128);
      decrypts_present_not = λ r after h. crossed_is r after _ (h ∙ present_refusals.calls.decrypt_output);
      benches = λ r after h. crossed_is r after _ (h ∙ exhibits.benched);
      benches_not = λ r after h. crossed_is r after _ (h ∙ exhibits.not_benched);
      checks = λ r after h. crossed_is r after _ (h ∙ exhibits.authenticated);
      checks_not = λ r after h. crossed_is r after _ (h ∙ exhibits.not_authenticated);
      seals_panel = λ r after h. crossed_is r after _ (h ∙ panels.calls.wraps_4);
      seals_panel_not = λ first r after h. crossed_is r after _ (h ∙ panels.calls.wrong_key_lem first);
      blanks = λ r after h. crossed_is r after _ (h ∙ ap plain exhibits.blanked);
      blanks_not = λ s r after h. crossed_is r after _ (h ∙ ap plain (exhibits.not_blanked s));
      writes = λ r after h. pointed_is r after _ (h ∙ exhibits.written);
      writes_not = λ r after h. pointed_is r after _ (h ∙ exhibits.not_written);
      writes_broken = λ r after h. pointed_is r after _ (h ∙ exhibits.broken);
      clears = λ r after h. crossed_is r after _ (h ∙ ap plain exhibits.cleared);
      clears_not = λ r after h. crossed_is r after _ (h ∙ ap plain exhibits.not_cleared);
      reads = λ r after h. pointed_is r after _ (h ∙ exhibits.read);
      reads_not = λ r after h. pointed_is r after _ (h ∙ exhibits.not_read);
      reads_on = λ r after h. pointed_is r after _ (h ∙ exhibits.dated);
      reads_on_not = λ r after h. pointed_is r after _ (h ∙ exhibits.not_dated);
      reads_on_no_terms = λ r after h. pointed_is r after _ (h ∙ exhibits.no_terms);
      numbers_day = λ r h. day_is r _ (h ∙ exhibits.day);
      numbers_day_not = λ r h. day_is r _ (h ∙ exhibits.no_day);
      dates_day = λ r h. date_is r _ (h ∙ exhibits.date);
      dates_day_not = λ r h. date_is r _ (h ∙ exhibits.no_date);
      lists = λ r after h. listed_is r after _ (h ∙ exhibits.list);
      lists_not = λ r after h. listed_is r after _ (h ∙ exhibits.no_list);
      finds_cut = λ r h. h ∙ text_laws.texts.cut_off_2.place;
      finds_overlong = λ r h. h ∙ text_laws.texts.overlong_3.place;
      finds_none = λ r h. h ∙ text_laws.texts.example_1.place;
    }

-- ---- the running order, by its C name

pub record OrderEquation : Type 0 where
  pub running_order_lem : (s t x out : List ℕ) (r : Answer) (after : List ℕ) → Orders s t x out r after → crossed r after ≡ ordering s t x out

pub record OrderNames : Type 0 where
  -- seven slots on a day, and an output that is too short by a byte
  pub orders : (r : Answer) (after : List ℕ) → Orders example_sheet example_terms (ascii "2000-01-21") (replicate 108 7) r after
      → (r ≡ answer 0 107)
      × (after ≡ ascii "5 2000-01-01 2000-01-21 41\n0 2000-01-11 2000-01-31 17\n2 2000-01-11 2000-02-10 0\n4 2000-01-21 2000-01-26 40\n" ++ (7 ∷ []))
  pub orders_not : (r : Answer) (after : List ℕ) → Orders example_sheet example_terms (ascii "2000-01-21") (replicate 106 7) r after → (r ≡ answer 3 0) × (after ≡ replicate 106 7)

pub order_equation : OrderEquation
order_equation = record { running_order_lem = λ s t x out r after h. h }

pub order_names : OrderNames
order_names =
    record {
      orders = λ r after h. crossed_is r after _ (h ∙ exhibited.lines_put);
      orders_not = λ r after h. crossed_is r after _ (h ∙ exhibited.too_short);
    }
