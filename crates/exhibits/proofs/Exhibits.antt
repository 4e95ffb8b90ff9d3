-- The exhibited calls come to what the record says.
use Prim.Native.Nat.{ℕ, ◌-◌}
use mathlib.Core.Path.{◌≡◌, refl, sym, ap, ◌∙◌}
use mathlib.Core.Bool.{not, ◌||◌}
use mathlib.Core.List.{List, [], ◌∷◌, ◌++◌}
use native.Mathlib.Omega.{arith}
use lib.ListN.{drop, replicate}
use Rattle.std.specs.Prelude.{Ok, Err}
use Rattle.octets.specs.Bytes.{if◌then◌otherwise◌, be, number, zeros, put, all_zero, same, all_below}
use Rattle.octets.specs.Outcome.{◌gives◌, decided}
use Rattle.text.specs.Grammar.{forms, inside, after, some, meets, well_formed}
use Rattle.mcrypton.specs.Bytes.{key_length}
use Rattle.octets.specs.BlockCalls.{block_outcome, block_tests, block_call}
use Rattle.mcrypton.specs.Calls.{encrypting, decrypting}
use Rattle.mcrypton.proofs.Refusals.{block_refusals}
use Rattle.chip_bench.specs.Calls.{bench_outcome, bench_tests, benching}
use Rattle.modes.specs.Answers.{authenticating}
use Rattle.cipher.specs.Key.{mcrypton_class, class_known, key_bytes, sheet_key_length}
use Rattle.layout.specs.Layout.{edition1, edition_of, slots, key_class, edition_byte, last_write, rule1, sheet_size, mark_at, field_at, slot_count, mark, field, mark_number, mark_length, mark_check, written_mark, blank_slot, fit_slot, fit_in, fit, store_slot, store_last, first_eight, serial_header, blank_header, blank_slots, blank_sheet}
use Rattle.captions.specs.Answers.{Outcome, outcome, answer_number, answer_length, change_point, answer_point}
use Rattle.faults.specs.Faults.{zeros_before, first_set, faults, first_in, first_fault, fault_of, header_point, fault_point}
use Rattle.captions.specs.Captions.{pair, new_mark, other_keys, slot_mark, sealed_field, check_of, opened_field, stored_as, written, opened, altered, change, cleared}
use Rattle.captions.specs.Calls.{wrong_keys, other_class, key_tests, class_tests, sheet_tests, caption_tests, write_tests, window_tests, open_tests, read_tests, clear_tests, blank_tests, writing_with, clearing_with, reading_with, blanking_with, writing, clearing, reading, blanking}
use Rattle.captions.specs.declared.Refusal.TheVariants.{Altered}
use Rattle.captions.specs.declared.Change.TheVariants.{Check, Byte}
use Rattle.terms.specs.Terms.{count, opening, closing, fit_terms, on_show}
use Rattle.terms.proofs.Meaning.{reflects_terms}
use Rattle.dated.specs.Calls.{dated_number, dated_length, dated_point, dated_outcome, undated, dated_tests, dating_with, dating}
use Rattle.dated.proofs.Open.{one_day}
use Rattle.calendar.specs.Calendar.{day_of_date, date_of_day}
use Rattle.calendar.specs.Calendar as Calendar
use Rattle.calendar.proofs.Laws.{calendar_laws}
use Rattle.listing.specs.Ascii.{ascii}
use Rattle.listing.specs.Listing.{digits, decimal, line, head_line, blank_line, written_line, slot_line, slot_lines, key_bits, listable, listing, listed}
use Rattle.exhibits.specs.Values.{sealing_key, checking_key, block, wanted, leading, abc, abc_check, new_sheet, blank_one, abc_field, abc_mark, two_mark, written_one, check_changed, length_two, cleared_one, nearly_worn, last_field, last_mark, worn_one, keys, ten_bytes, fifth_day}
use Rattle.exhibits.specs.Exhibits.{Exhibits}
use Rattle.exhibits.proofs.Sealed.{loaded_keys, block_leads, text_checked, mark_made, field_sealed, field_opened, field_checked, two_checked, last_sealed, last_checked}

-- ---- blocks, the bench and CMAC

not_encrypted : (out : List ℕ) → encrypting 0 (zeros 7) block out ≡ record { number = 1; len = 0; bytes = out }
unfolding encrypting block_call block_tests block_outcome decided key_length zeros
not_encrypted out = refl

not_decrypted : (out : List ℕ) → decrypting 0 (zeros 7) block out ≡ record { number = 1; len = 0; bytes = out }
unfolding decrypting block_call block_tests block_outcome decided key_length zeros
not_decrypted out = refl

benched : benching checking_key 1 wanted (zeros 8) ≡ record { number = 0; len = 0; bytes = leading }
unfolding benching bench_tests bench_outcome decided key_length zeros
benched = ap (bench_outcome (Ok tt)) block_leads

not_benched : benching checking_key 13 wanted (zeros 8) ≡ record { number = 13; len = 0; bytes = zeros 8 }
unfolding benching bench_tests bench_outcome decided key_length zeros
not_benched = refl

authenticated : authenticating sealing_key abc (zeros 8) ≡ record { number = 0; len = 0; bytes = abc_check }
unfolding authenticating block_outcome decided key_length zeros
authenticated = ap (block_outcome (Ok tt)) text_checked

not_authenticated : authenticating sealing_key abc (zeros 7) ≡ record { number = 3; len = 0; bytes = zeros 7 }
unfolding authenticating block_outcome decided key_length zeros
not_authenticated = refl

-- ---- calls on a sheet

-- an outcome that points at nothing
abbrev plain : ℕ → ℕ → List ℕ → Outcome
plain n l bytes = record { number = n; len = l; points = record { rule = 0; slot = 0; place = 0 }; bytes = bytes }

blanked : blanking keys (replicate 224 7) 1 4 258 ≡ plain 0 0 new_sheet
unfolding blanking blanking_with blank_tests outcome answer_number answer_length answer_point class_known mcrypton_class slot_count sheet_size decided wrong_keys sheet_key_length key_bytes same zeros be first_eight serial_header blank_header blank_slots blank_sheet
blanked = ap (λ (m : List ℕ). outcome (Ok 0) (blank_sheet 1 4 258 m)) mark_made

not_blanked : (s : List ℕ) → blanking (pair sealing_key sealing_key) s 1 4 258 ≡ plain 2 0 s
unfolding blanking blanking_with blank_tests outcome answer_number answer_length answer_point class_known mcrypton_class decided wrong_keys sheet_key_length same
not_blanked s = refl

-- the sheet that write w to s leaves, from the sealed field and its check
made : List ℕ → ℕ → List ℕ → List ℕ → List ℕ
made s w f c = store_last (store_slot edition1 s 0 (new_mark w 3 c) f) w

-- a write of "abc" to s, with number w, is told by the field and the check that it comes to
module _ (s : List ℕ) (w : ℕ) (f c : List ℕ)
    (by : writing keys s 0 abc ≡ outcome (Ok 0) (made s w (sealed_field loaded_keys 0 w 0 abc) (check_of loaded_keys w 0 3 (sealed_field loaded_keys 0 w 0 abc))))
    (sealed : sealed_field loaded_keys 0 w 0 abc ≡ f) (checked : check_of loaded_keys w 0 3 f ≡ c) where
  written_as : writing keys s 0 abc ≡ outcome (Ok 0) (made s w f c)
  written_as = by ∙ ap (λ (g : List ℕ). outcome (Ok 0) (made s w g (check_of loaded_keys w 0 3 g))) sealed ∙ ap (λ (d : List ℕ). outcome (Ok 0) (made s w f d)) checked

written_whole : writing keys blank_one 0 abc ≡ plain 0 0 written_one
unfolding forms inside after some meets well_formed made writing writing_with write_tests caption_tests decided wrong_keys other_class other_keys sheet_key_length key_bytes same key_tests class_tests sheet_tests number zeros be all_zero all_below slots key_class edition_byte last_write rule1 mcrypton_class edition_of sheet_size mark_at field_at slot_count mark field mark_number mark_length written_mark blank_slot fit_slot fit_in written stored_as slot_mark new_mark put store_last store_slot outcome answer_number answer_length answer_point
written_whole = written_as blank_one 1 abc_field abc_mark refl field_sealed field_checked

last_written : writing keys nearly_worn 0 abc ≡ plain 0 0 worn_one
unfolding forms inside after some meets well_formed made writing writing_with write_tests caption_tests decided wrong_keys other_class other_keys sheet_key_length key_bytes same key_tests class_tests sheet_tests number zeros be all_zero all_below slots key_class edition_byte last_write rule1 mcrypton_class edition_of sheet_size mark_at field_at slot_count mark field mark_number mark_length written_mark blank_slot fit_slot fit_in written stored_as slot_mark new_mark put store_last store_slot outcome answer_number answer_length answer_point
last_written = written_as nearly_worn 4294967295 last_field last_mark refl last_sealed last_checked

worn_whole : writing keys worn_one 0 abc ≡ plain 8 0 worn_one
unfolding forms inside after some meets well_formed writing writing_with write_tests caption_tests decided wrong_keys other_class other_keys sheet_key_length key_bytes same key_tests class_tests sheet_tests number zeros be all_zero all_below slots key_class edition_byte last_write rule1 mcrypton_class edition_of sheet_size mark_at field_at slot_count mark field mark_number mark_length written_mark blank_slot fit_slot fit_in outcome answer_number answer_length answer_point
worn_whole = refl

short_sheet : writing keys (1 ∷ 2 ∷ 3 ∷ []) 0 abc ≡ record { number = 4; len = 0; points = record { rule = 1; slot = 0; place = 0 }; bytes = 1 ∷ 2 ∷ 3 ∷ [] }
unfolding writing writing_with write_tests key_tests sheet_tests decided wrong_keys sheet_key_length same fit_in faults first_in first_fault fault_of header_point fault_point outcome answer_number answer_length answer_point
short_sheet = refl

ten_short : writing ten_bytes (1 ∷ 2 ∷ 3 ∷ []) 0 abc ≡ record { number = 4; len = 0; points = record { rule = 1; slot = 0; place = 0 }; bytes = 1 ∷ 2 ∷ 3 ∷ [] }
unfolding writing writing_with write_tests key_tests sheet_tests decided wrong_keys sheet_key_length same fit_in faults first_in first_fault fault_of header_point fault_point outcome answer_number answer_length answer_point zeros
ten_short = refl

ten_bytes_lem : writing ten_bytes blank_one 0 abc ≡ plain 5 0 blank_one
unfolding writing writing_with write_tests caption_tests decided wrong_keys other_class other_keys sheet_key_length key_bytes same key_tests class_tests sheet_tests number zeros be all_zero all_below slots key_class edition_byte last_write rule1 mcrypton_class edition_of sheet_size mark_at field_at slot_count mark field mark_number mark_length written_mark blank_slot fit_slot fit_in outcome answer_number answer_length answer_point
ten_bytes_lem = refl

present_old : reading ten_bytes (0 ∷ 1 ∷ 21 ∷ 1 ∷ zeros 212) 0 (replicate 192 7) ≡ record { number = 4; len = 0; points = record { rule = 3; slot = 0; place = 0 }; bytes = zeros 192 }
unfolding reading reading_with read_tests open_tests window_tests key_tests sheet_tests decided wrong_keys sheet_key_length same number zeros all_zero all_below slots key_class edition_byte rule1 mcrypton_class edition_of sheet_size slot_count fit_in faults first_in first_fault fault_of header_point fault_point outcome answer_number answer_length answer_point
present_old = refl

not_written : writing keys blank_one 0 (zeros 193) ≡ plain 7 0 blank_one
unfolding writing writing_with write_tests caption_tests decided wrong_keys other_class other_keys sheet_key_length key_bytes same key_tests class_tests sheet_tests number zeros be all_zero all_below slots key_class edition_byte last_write rule1 mcrypton_class edition_of sheet_size mark_at field_at slot_count mark field mark_number mark_length written_mark blank_slot fit_slot fit_in outcome answer_number answer_length answer_point
not_written = refl

broken_letter : writing keys blank_one 0 (0xC3 ∷ []) ≡ plain 15 0 blank_one
unfolding forms inside after some meets well_formed writing writing_with write_tests caption_tests decided wrong_keys other_class other_keys sheet_key_length key_bytes same key_tests class_tests sheet_tests number zeros be all_zero all_below slots key_class edition_byte last_write rule1 mcrypton_class edition_of sheet_size mark_at field_at slot_count mark field mark_number mark_length written_mark blank_slot fit_slot fit_in outcome answer_number answer_length answer_point
broken_letter = refl

broken_nowhere : writing keys blank_one 1 (0xC3 ∷ []) ≡ plain 6 0 blank_one
unfolding writing writing_with write_tests caption_tests decided wrong_keys other_class other_keys sheet_key_length key_bytes same key_tests class_tests sheet_tests number zeros be all_zero all_below slots key_class edition_byte last_write rule1 mcrypton_class edition_of sheet_size mark_at field_at slot_count mark field mark_number mark_length written_mark blank_slot fit_slot fit_in outcome answer_number answer_length answer_point
broken_nowhere = refl

broken_long : writing keys blank_one 0 (replicate 193 0xC3) ≡ plain 7 0 blank_one
unfolding writing writing_with write_tests caption_tests decided wrong_keys other_class other_keys sheet_key_length key_bytes same key_tests class_tests sheet_tests number zeros be all_zero all_below slots key_class edition_byte last_write rule1 mcrypton_class edition_of sheet_size mark_at field_at slot_count mark field mark_number mark_length written_mark blank_slot fit_slot fit_in outcome answer_number answer_length answer_point
broken_long = refl

broken_worn : writing keys worn_one 0 (0xC3 ∷ []) ≡ plain 15 0 worn_one
unfolding forms inside after some meets well_formed writing writing_with write_tests caption_tests decided wrong_keys other_class other_keys sheet_key_length key_bytes same key_tests class_tests sheet_tests number zeros be all_zero all_below slots key_class edition_byte last_write rule1 mcrypton_class edition_of sheet_size mark_at field_at slot_count mark field mark_number mark_length written_mark blank_slot fit_slot fit_in outcome answer_number answer_length answer_point
broken_worn = refl

whole_worn : writing keys worn_one 0 (0xC3 ∷ 0xA9 ∷ 0xE2 ∷ 0x89 ∷ 0xA2 ∷ 0xF0 ∷ 0xA3 ∷ 0x8E ∷ 0xB4 ∷ []) ≡ plain 8 0 worn_one
unfolding forms inside after some meets well_formed writing writing_with write_tests caption_tests decided wrong_keys other_class other_keys sheet_key_length key_bytes same key_tests class_tests sheet_tests number zeros be all_zero all_below slots key_class edition_byte last_write rule1 mcrypton_class edition_of sheet_size mark_at field_at slot_count mark field mark_number mark_length written_mark blank_slot fit_slot fit_in outcome answer_number answer_length answer_point
whole_worn = refl

cleared_whole : clearing written_one 0 ≡ plain 0 0 cleared_one
unfolding clearing clearing_with clear_tests cleared store_slot put decided number zeros be all_zero all_below slots key_class edition_byte last_write rule1 mcrypton_class edition_of sheet_size mark_at field_at slot_count mark field mark_number mark_length written_mark blank_slot fit_slot fit_in outcome answer_number answer_length answer_point
cleared_whole = refl

not_cleared : clearing written_one 1 ≡ plain 6 0 written_one
unfolding clearing clearing_with clear_tests decided number zeros be all_zero all_below slots key_class edition_byte last_write rule1 mcrypton_class edition_of sheet_size mark_at field_at slot_count mark field mark_number mark_length written_mark blank_slot fit_slot fit_in outcome answer_number answer_length answer_point
not_cleared = refl

-- what a read finds in slot 0 of s, whose mark has number 1, the length n and the check c, and whose field is that of "abc"
module _ (s : List ℕ) (n : ℕ) (c d : List ℕ)
    (by : reading keys s 0 (replicate 192 7)
    ≡ decided ((altered loaded_keys edition1 s 0 gives Altered 0 (change loaded_keys edition1 s 0)) ∷ []) (outcome (Ok n) (opened loaded_keys edition1 s 0)) (λ r. outcome (Err r) (zeros 192)))
    (opens : opened loaded_keys edition1 s 0 ≡ opened_field loaded_keys 0 1 0 abc_field)
    (alters : altered loaded_keys edition1 s 0 ≡ not (same (check_of loaded_keys 1 0 n abc_field) c) || not (all_zero (drop n (opened loaded_keys edition1 s 0))))
    (changes : change loaded_keys edition1 s 0 ≡ (if same (check_of loaded_keys 1 0 n abc_field) c then Byte (first_set (opened loaded_keys edition1 s 0) n (192 - n)) otherwise Check))
    (checked : check_of loaded_keys 1 0 n abc_field ≡ d) where
  read_as : reading keys s 0 (replicate 192 7)
      ≡ decided
      ((not (same d c) || not (all_zero (drop n (abc ++ zeros 189))) gives Altered 0 (if same d c then Byte (first_set (abc ++ zeros 189) n (192 - n)) otherwise Check)) ∷ [])
      (outcome (Ok n) (abc ++ zeros 189)) (λ r. outcome (Err r) (zeros 192))
  read_as = by ∙ rw (alters, changes, opens, field_opened, checked)

read_whole : reading keys written_one 0 (replicate 192 7) ≡ plain 0 3 (abc ++ zeros 189)
unfolding reading reading_with read_tests open_tests window_tests decided wrong_keys other_class other_keys sheet_key_length key_bytes same key_tests class_tests sheet_tests number zeros be all_zero all_below slots key_class edition_byte last_write rule1 mcrypton_class edition_of sheet_size mark_at field_at slot_count mark field mark_number mark_length written_mark blank_slot fit_slot fit_in opened altered change mark_check outcome answer_number answer_length answer_point
read_whole = read_as written_one 3 abc_mark abc_mark refl refl refl refl field_checked

check_altered : reading keys check_changed 0 (replicate 192 7) ≡ record { number = 10; len = 0; points = record { rule = 10; slot = 0; place = 0 }; bytes = zeros 192 }
unfolding reading reading_with read_tests open_tests window_tests decided wrong_keys other_class other_keys sheet_key_length key_bytes same key_tests class_tests sheet_tests number zeros be all_zero all_below slots key_class edition_byte last_write rule1 mcrypton_class edition_of sheet_size mark_at field_at slot_count mark field mark_number mark_length written_mark blank_slot fit_slot fit_in opened altered change change_point mark_check outcome answer_number answer_length answer_point
check_altered = read_as check_changed 3 (mark_check (mark edition1 check_changed 0)) abc_mark refl refl refl refl field_checked

byte_altered : reading keys length_two 0 (replicate 192 7) ≡ record { number = 10; len = 0; points = record { rule = 11; slot = 0; place = 2 }; bytes = zeros 192 }
unfolding reading reading_with read_tests open_tests window_tests decided wrong_keys other_class other_keys sheet_key_length key_bytes same key_tests class_tests sheet_tests number zeros be all_zero all_below slots key_class edition_byte last_write rule1 mcrypton_class edition_of sheet_size mark_at field_at slot_count mark field mark_number mark_length written_mark blank_slot fit_slot fit_in opened altered change change_point mark_check zeros_before first_set outcome answer_number answer_length answer_point
byte_altered = read_as length_two 2 two_mark two_mark refl refl refl refl two_checked

narrow_window : reading keys written_one 0 (replicate 5 7) ≡ plain 3 0 (zeros 5)
unfolding reading reading_with read_tests open_tests window_tests key_tests decided wrong_keys sheet_key_length same zeros outcome answer_number answer_length answer_point
narrow_window = refl

not_read : reading keys blank_one 0 (replicate 192 7) ≡ plain 9 0 (zeros 192)
unfolding reading reading_with read_tests open_tests window_tests decided wrong_keys other_class other_keys sheet_key_length key_bytes same key_tests class_tests sheet_tests number zeros be all_zero all_below slots key_class edition_byte last_write rule1 mcrypton_class edition_of sheet_size mark_at field_at slot_count mark field mark_number mark_length written_mark blank_slot fit_slot fit_in outcome answer_number answer_length answer_point
not_read = refl

-- ---- dated reads

dated_whole : (dating keys written_one fifth_day 0 5 (replicate 192 7)).outcome ≡ plain 0 3 (abc ++ zeros 189)
unfolding slots number count opening closing fit_terms all_below
dated_whole = one_day keys written_one fifth_day 0 5 (replicate 192 7) ((reflects_terms 1 fifth_day).holds refl) (omega arith) refl refl ∙ read_whole

not_dated : (dating keys written_one fifth_day 0 6 (replicate 192 7)).outcome ≡ plain 12 0 (zeros 192)
unfolding dating dating_with dated_tests undated dated_outcome dated_number dated_length dated_point decided wrong_keys other_class other_keys sheet_key_length key_bytes same key_tests class_tests sheet_tests number zeros be all_zero all_below slots key_class edition_byte last_write rule1 mcrypton_class edition_of sheet_size mark_at field_at slot_count mark field mark_number mark_length written_mark blank_slot fit_slot fit_in count opening closing fit_terms on_show
not_dated = refl

no_terms : (dating keys written_one [] 0 5 (replicate 192 7)).outcome ≡ record { number = 4; len = 0; points = record { rule = 12; slot = 0; place = 0 }; bytes = zeros 192 }
unfolding dating dating_with dated_tests undated dated_outcome dated_number dated_length dated_point decided wrong_keys other_class other_keys sheet_key_length key_bytes same key_tests class_tests sheet_tests number zeros be all_zero all_below slots key_class edition_byte last_write rule1 mcrypton_class edition_of sheet_size mark_at field_at slot_count mark field mark_number mark_length written_mark blank_slot fit_slot fit_in count fit_terms
no_terms = refl

-- ---- the calendar

is_29 : day_of_date 2000 2 29 ≡ record { number = 0; day = 59 }
unfolding day_of_date Calendar.is_date Calendar.month_days Calendar.leap Calendar.day_number Calendar.days_before_year Calendar.days_before_month Calendar.years_sum Calendar.months_sum
is_29 = refl

no_29 : day_of_date 2001 2 29 ≡ record { number = 11; day = 0 }
unfolding day_of_date Calendar.is_date Calendar.month_days Calendar.leap
no_29 = refl

-- ---- the listing

listing_is : listing written_one ≡ ascii "slots 1 key 64 last 1\n0 written 1 3\n"
unfolding number zeros be all_zero all_below slots key_class edition_byte last_write rule1 mcrypton_class edition_of sheet_size mark_at field_at slot_count mark field mark_number mark_length written_mark blank_slot fit_slot fit_in fit key_bytes digits decimal line head_line blank_line written_line slot_line slot_lines key_bits listable listing
listing_is = refl

list_is : ◌≡◌ {A = ℕ × List ℕ} (listed written_one (zeros 40)) (36, ascii "slots 1 key 64 last 1\n0 written 1 3\n" ++ zeros 4)
unfolding listed put zeros
list_is = rw listing_is

no_list : ◌≡◌ {A = ℕ × List ℕ} (listed written_one (zeros 35)) (0, zeros 35)
unfolding listed zeros
no_list = rw listing_is

pub exhibits : Exhibits
exhibits =
    record {
      encrypted = block_refusals.calls.encrypt_4;
      not_encrypted = not_encrypted;
      decrypted = block_refusals.calls.decrypt_4;
      not_decrypted = not_decrypted;
      benched = benched;
      not_benched = not_benched;
      authenticated = authenticated;
      not_authenticated = not_authenticated;
      blanked = blanked;
      not_blanked = not_blanked;
      written = written_whole;
      not_written = not_written;
      broken = broken_letter;
      broken_nowhere = broken_nowhere;
      broken_long = broken_long;
      broken_worn = broken_worn;
      whole_worn = whole_worn;
      last_written = last_written;
      worn = worn_whole;
      short = short_sheet;
      ten_short = ten_short;
      ten_bytes_lem = ten_bytes_lem;
      present_old = present_old;
      cleared = cleared_whole;
      not_cleared = not_cleared;
      read = read_whole;
      not_read = not_read;
      narrow = narrow_window;
      check_altered = check_altered;
      byte_altered = byte_altered;
      dated = dated_whole;
      not_dated = not_dated;
      no_terms = no_terms;
      day = is_29;
      no_day = no_29;
      date = sym (ap (λ (o : Calendar.DayOutcome). date_of_day o.day) is_29) ∙ calendar_laws.date_of_its_day 2000 2 29 ((calendar_laws.date_accepted 2000 2 29).0 (ap (λ (o : Calendar.DayOutcome). o.number) is_29));
      no_date = calendar_laws.day_refused 36525 (omega arith);
      list = list_is;
      no_list = no_list;
    }
