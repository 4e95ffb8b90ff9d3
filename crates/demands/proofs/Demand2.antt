-- Demand 2 holds.
use Prim.Native.Nat.{ℕ, ◌-◌, ◌≤◌, ◌<◌}
use mathlib.Core.Path.{◌≡◌, refl}
use mathlib.Core.Bool.{true}
use mathlib.Core.List.{List, ◌++◌}
use lib.ListN.{length}
use Rattle.std.specs.Prelude.{Ok}
use Rattle.octets.specs.Bytes.{Bytes, be, zeros}
use Rattle.modes.proofs.Chained.{cbc_steps}
use Rattle.modes.proofs.Printed.{mac_steps}
use Rattle.layout.specs.Layout.{edition_of, slots, key_class, mark_length, mark_at, field_at, mark, fit, first_eight, serial_header, blank_header, blank_slots, blank_sheet}
use Rattle.layout.proofs.Places.{places}
use Rattle.captions.specs.Answers.{answer_number, answer_length, outcome}
use Rattle.captions.specs.Captions.{Keys, Ciphers, mark_block, key_mark, padded, new_mark, start_block, sealed_field, check_of, slot_mark, written, opened}
use Rattle.captions.specs.Calls.{clearing}
use Rattle.captions.specs.Claim.{Sound, shown}
use Rattle.captions.proofs.Accepted.{zero_read, zero_write, zero_clear}
use Rattle.captions.proofs.Editions.{editions_regular, edition_kept, fit_class}
use Rattle.captions.proofs.Effect.{held_read}
use Rattle.captions.proofs.ReadBack.{Read, accepted_read, length_caption, window_padded, field_sealed, mark_sealed}
use Rattle.captions.proofs.WriteBack.{Wrote, accepted_write, WriteLeaves, write_back, accepted_clear, clear_back}
use Rattle.demands.specs.Ciphers.{by_paths, writing_by, reading_by, blanking_by}
use Rattle.demands.specs.Steps.{Gives, Serves}
use Rattle.demands.specs.Demand2.{Holds, Shows, Stores, Empties, Makes, Demand2}
use Rattle.demands.proofs.Ciphers.{paths_sound, classes_by_cipher, code_writes, code_reads, code_blanks}
use Rattle.demands.proofs.Gives.{gives}
use Rattle.demands.proofs.Served.{served_fits, served_sound}
use Rattle.demands.proofs.Blanking.{blank_len, blank_is}

-- ---- from sheet to caption

module _ (p q : ℕ) (k : Keys) (s : List ℕ) (i : ℕ) (window : List ℕ) (sealing : Bytes k.sealing) (checking : Bytes k.checking) (bytes : Bytes s)
    (accepted : (reading_by p q k s i window).number ≡ 0) where
  x : Ciphers
  x = by_paths (key_class s) p q k

  read : Read (edition_of s) x k s i
  unfolding reading_by x
  read = accepted_read (edition_of s) x k s i window accepted

  sound : Sound x
  unfolding fit x
  sound = paths_sound k s read.keys read.class p q (fit_class s read.fits) sealing checking

  came : reading_by p q k s i window ≡ outcome (Ok (mark_length (mark (edition_of s) s i))) (opened x (edition_of s) s i)
  unfolding reading_by x
  came = zero_read (edition_of s) x k s i window accepted

  shows : Shows (by_paths (key_class s) p q k) s i (reading_by p q k s i window)
  unfolding x outcome answer_length sealed_field start_block slot_mark new_mark check_of padded
  shows =
      rw came
      (record {
        holds = record { field_is = field_sealed (edition_of s) x k s i sound bytes read; mark_is = mark_sealed (edition_of s) x k s i sound bytes read };
        size = length_caption (edition_of s) x k s i sound bytes read;
        rest = window_padded (edition_of s) x k s i sound bytes read;
      })

-- ---- from caption to sheet

module _ (p : ℕ) (k : Keys) (s : List ℕ) (i : ℕ) (c : List ℕ)
    (sealing : Bytes k.sealing) (checking : Bytes k.checking) (bytes : Bytes s) (caption : Bytes c)
    (accepted : (writing_by p k s i c).number ≡ 0) where
  y : Ciphers
  y = by_paths (key_class s) p p k

  s' : List ℕ
  s' = written y (edition_of s) s i c

  wrote : Wrote (edition_of s) y k s i c
  unfolding writing_by y
  wrote = accepted_write (edition_of s) y k s i c accepted

  write_sound : Sound y
  unfolding fit y
  write_sound = paths_sound k s wrote.keys wrote.class p p (fit_class s wrote.fits) sealing checking

  leaves : WriteLeaves (edition_of s) y s i c s'
  unfolding s'
  leaves = write_back (edition_of s) y s i c (editions_regular s) write_sound k bytes caption wrote

  stored_as_lem : writing_by p k s i c ≡ outcome (Ok 0) s'
  unfolding writing_by y s'
  stored_as_lem = zero_write (edition_of s) y k s i c accepted

  stores : Stores (by_paths (key_class s) p p k) s i c (writing_by p k s i c)
  unfolding y outcome answer_length sealed_field start_block slot_mark new_mark check_of padded mark_at field_at
  stores =
      let same : edition_of s ≡ edition_of s' = edition_kept s s' leaves.header in
      rw stored_as_lem
      (record {
        len = refl;
        holds = record { field_is = rw (← same) leaves.field_is; mark_is = rw (← same) leaves.mark_is };
        last = leaves.last;
        size = leaves.size;
        others = leaves.others;
      })

-- ---- and back

held : (p q : ℕ) (k : Keys) (s : List ℕ) (i w : ℕ) (c window : List ℕ) → Serves k s → Bytes s → fit s ≡ true → i < slots s
    → 1 ≤ w → w < 4294967296 → Bytes c → length c ≤ 192 → length window ≡ 192 → Holds (by_paths (key_class s) p q k) s i w c
    → Gives (reading_by p q k s i window) 0 (length c) (c ++ zeros (192 - length c))
unfolding reading_by shown padded answer_number answer_length sealed_field start_block slot_mark new_mark check_of
held p q k s i w c window serves bytes fits slot positive small caption short l h =
    gives (Ok (length c)) (padded c)
    (held_read (edition_of s) (by_paths (key_class s) p q k) k s (served_fits p q k s serves bytes fits) (served_sound p q k s serves fits) w i c slot short caption positive small
    h.field_is h.mark_is window l)

-- ---- clears and blanking

empties : (s : List ℕ) (i : ℕ) → (clearing s i).number ≡ 0 → Empties s i (clearing s i)
unfolding clearing outcome answer_length mark_at field_at
empties s i accepted =
    let left = clear_back (edition_of s) (editions_regular s) s i (accepted_clear (edition_of s) s i accepted) in
    rw (zero_clear (edition_of s) s i accepted)
    (record { len = refl; mark_is = left.mark_is; field_is = left.field_is; size = left.size; others = left.others })

makes : (p : ℕ) (k : Keys) (b : List ℕ) (n t v : ℕ) → (blanking_by p k b n t v).number ≡ 0 → Makes (by_paths t p p k) n t v (blanking_by p k b n t v)
unfolding blanking_by blank_sheet blank_slots blank_header serial_header first_eight key_mark mark_block be zeros
makes p k b n t v h = record { len = blank_len (by_paths t p p k) k b n t v h; sheet_is = blank_is (by_paths t p p k) k b n t v h }

pub demand2 : Demand2
demand2 =
    record {
      reads = shows;
      writes = stores;
      held = held;
      clears = empties;
      blanks = makes;
      ciphers = classes_by_cipher;
      cbc = λ E D n c x promise. cbc_steps promise n c x;
      mac = mac_steps;
      places = places;
      code_write = code_writes;
      code_read = code_reads;
      code_blank = code_blanks;
    }
