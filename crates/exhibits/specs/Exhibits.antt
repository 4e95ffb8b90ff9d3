-- What the definitions that the contracts cite come to: number, length, what is pointed at and bytes of an accepted and of a refused call of each kind.
use Rattle.std.specs.Prelude.{◌≡◌, List, [], ◌∷◌, ◌++◌, ℕ, replicate}
use Rattle.octets.specs.Bytes.{zeros}
use Rattle.mcrypton.specs.Calls.{encrypting, decrypting}
use Rattle.chip_bench.specs.Calls.{benching}
use Rattle.modes.specs.Answers.{authenticating}
use Rattle.captions.specs.Captions.{pair}
use Rattle.captions.specs.Calls.{blanking, writing, clearing, reading}
use Rattle.dated.specs.Calls.{dating}
use Rattle.calendar.specs.Calendar.{day_of_date, date_of_day}
use Rattle.listing.specs.Ascii.{ascii}
use Rattle.listing.specs.Listing.{listed}
use Rattle.exhibits.specs.Values.{sealing_key, checking_key, block, encrypted_block, decrypted_block, wanted, leading, abc, abc_check, new_sheet, blank_one, written_one, check_changed, length_two, cleared_one, nearly_worn, worn_one, keys, ten_bytes, fifth_day}

pub record Exhibits : Type 0 where
  -- a block, and a key of 7 bytes
  pub encrypted : encrypting 0 sealing_key block (zeros 8) ≡ record { number = 0; len = 0; bytes = encrypted_block }
  pub not_encrypted : (out : List ℕ) → encrypting 0 (zeros 7) block out ≡ record { number = 1; len = 0; bytes = out }
  pub decrypted : decrypting 0 sealing_key block (zeros 8) ≡ record { number = 0; len = 0; bytes = decrypted_block }
  pub not_decrypted : (out : List ℕ) → decrypting 0 (zeros 7) block out ≡ record { number = 1; len = 0; bytes = out }
  -- the bench, and round 13
  pub benched : benching checking_key 1 wanted (zeros 8) ≡ record { number = 0; len = 0; bytes = leading }
  pub not_benched : benching checking_key 13 wanted (zeros 8) ≡ record { number = 13; len = 0; bytes = zeros 8 }
  -- a CMAC, and an output of 7 bytes
  pub authenticated : authenticating sealing_key abc (zeros 8) ≡ record { number = 0; len = 0; bytes = abc_check }
  pub not_authenticated : authenticating sealing_key abc (zeros 7) ≡ record { number = 3; len = 0; bytes = zeros 7 }
  -- a blanking, and twin keys
  pub blanked : blanking keys (replicate 224 7) 1 4 258 ≡ record { number = 0; len = 0; points = record { rule = 0; slot = 0; place = 0 }; bytes = new_sheet }
  pub not_blanked : (s : List ℕ) → blanking (pair sealing_key sealing_key) s 1 4 258 ≡ record { number = 2; len = 0; points = record { rule = 0; slot = 0; place = 0 }; bytes = s }
  -- a write, and a caption of 193 bytes
  pub written : writing keys blank_one 0 abc ≡ record { number = 0; len = 0; points = record { rule = 0; slot = 0; place = 0 }; bytes = written_one }
  pub not_written : writing keys blank_one 0 (zeros 193) ≡ record { number = 7; len = 0; points = record { rule = 0; slot = 0; place = 0 }; bytes = blank_one }
  -- a letter that is cut off, in a slot, in one that there isn't and on a worn sheet; 193 first bytes; and letters of two, three and four bytes, which only a worn sheet refuses
  pub broken : writing keys blank_one 0 (0xC3 ∷ []) ≡ record { number = 15; len = 0; points = record { rule = 0; slot = 0; place = 0 }; bytes = blank_one }
  pub broken_nowhere : writing keys blank_one 1 (0xC3 ∷ []) ≡ record { number = 6; len = 0; points = record { rule = 0; slot = 0; place = 0 }; bytes = blank_one }
  pub broken_long : writing keys blank_one 0 (replicate 193 0xC3) ≡ record { number = 7; len = 0; points = record { rule = 0; slot = 0; place = 0 }; bytes = blank_one }
  pub broken_worn : writing keys worn_one 0 (0xC3 ∷ []) ≡ record { number = 15; len = 0; points = record { rule = 0; slot = 0; place = 0 }; bytes = worn_one }
  pub whole_worn : writing keys worn_one 0 (0xC3 ∷ 0xA9 ∷ 0xE2 ∷ 0x89 ∷ 0xA2 ∷ 0xF0 ∷ 0xA3 ∷ 0x8E ∷ 0xB4 ∷ [])
      ≡ record { number = 8; len = 0; points = record { rule = 0; slot = 0; place = 0 }; bytes = worn_one }
  -- the last write, and the next
  pub last_written : writing keys nearly_worn 0 abc ≡ record { number = 0; len = 0; points = record { rule = 0; slot = 0; place = 0 }; bytes = worn_one }
  pub worn : writing keys worn_one 0 abc ≡ record { number = 8; len = 0; points = record { rule = 0; slot = 0; place = 0 }; bytes = worn_one }
  -- a sheet of three bytes, which rule 1 points at
  pub short : writing keys (1 ∷ 2 ∷ 3 ∷ []) 0 abc ≡ record { number = 4; len = 0; points = record { rule = 1; slot = 0; place = 0 }; bytes = 1 ∷ 2 ∷ 3 ∷ [] }
  -- keys of 10 bytes, which are PRESENT's, pass the key test: on that sheet they meet 4, and 5 on one for mCrypton; 21 in byte 2 of edition 1, which rule 3 points at
  pub ten_short : writing ten_bytes (1 ∷ 2 ∷ 3 ∷ []) 0 abc ≡ record { number = 4; len = 0; points = record { rule = 1; slot = 0; place = 0 }; bytes = 1 ∷ 2 ∷ 3 ∷ [] }
  pub ten_bytes_lem : writing ten_bytes blank_one 0 abc ≡ record { number = 5; len = 0; points = record { rule = 0; slot = 0; place = 0 }; bytes = blank_one }
  pub present_old : reading ten_bytes (0 ∷ 1 ∷ 21 ∷ 1 ∷ zeros 212) 0 (replicate 192 7) ≡ record { number = 4; len = 0; points = record { rule = 3; slot = 0; place = 0 }; bytes = zeros 192 }
  -- a clear, which leaves 208 zeros, and a slot that there isn't
  pub cleared : clearing written_one 0 ≡ record { number = 0; len = 0; points = record { rule = 0; slot = 0; place = 0 }; bytes = cleared_one }
  pub not_cleared : clearing written_one 1 ≡ record { number = 6; len = 0; points = record { rule = 0; slot = 0; place = 0 }; bytes = written_one }
  -- a read, and a blank slot
  pub read : reading keys written_one 0 (replicate 192 7) ≡ record { number = 0; len = 3; points = record { rule = 0; slot = 0; place = 0 }; bytes = abc ++ zeros 189 }
  pub not_read : reading keys blank_one 0 (replicate 192 7) ≡ record { number = 9; len = 0; points = record { rule = 0; slot = 0; place = 0 }; bytes = zeros 192 }
  -- a window of 5 bytes; altered slots: by rule 10, the check, and by rule 11, the byte at place 2
  pub narrow : reading keys written_one 0 (replicate 5 7) ≡ record { number = 3; len = 0; points = record { rule = 0; slot = 0; place = 0 }; bytes = zeros 5 }
  pub check_altered : reading keys check_changed 0 (replicate 192 7) ≡ record { number = 10; len = 0; points = record { rule = 10; slot = 0; place = 0 }; bytes = zeros 192 }
  pub byte_altered : reading keys length_two 0 (replicate 192 7) ≡ record { number = 10; len = 0; points = record { rule = 11; slot = 0; place = 2 }; bytes = zeros 192 }
  -- a dated read on the slot's one day, on the day after, and by terms of no bytes, which rule 12 points at
  pub dated : (dating keys written_one fifth_day 0 5 (replicate 192 7)).outcome
      ≡ record { number = 0; len = 3; points = record { rule = 0; slot = 0; place = 0 }; bytes = abc ++ zeros 189 }
  pub not_dated : (dating keys written_one fifth_day 0 6 (replicate 192 7)).outcome
      ≡ record { number = 12; len = 0; points = record { rule = 0; slot = 0; place = 0 }; bytes = zeros 192 }
  pub no_terms : (dating keys written_one [] 0 5 (replicate 192 7)).outcome
      ≡ record { number = 4; len = 0; points = record { rule = 12; slot = 0; place = 0 }; bytes = zeros 192 }
  -- 29 February, of 2000 and of 2001; day 59, and a day after the last
  pub day : day_of_date 2000 2 29 ≡ record { number = 0; day = 59 }
  pub no_day : day_of_date 2001 2 29 ≡ record { number = 11; day = 0 }
  pub date : date_of_day 59 ≡ record { number = 0; year = 2000; month = 2; day = 29 }
  pub no_date : date_of_day 36525 ≡ record { number = 11; year = 0; month = 0; day = 0 }
  -- a listing, and an output that is too small for it
  pub list : listed written_one (zeros 40) ≡ (36, ascii "slots 1 key 64 last 1\n0 written 1 3\n" ++ zeros 4)
  pub no_list : listed written_one (zeros 35) ≡ (0, zeros 35)
