-- Listings, computed: document 01's examples, sheets with a slot written, and sheets for PRESENT.
use mathlib.Core.Path.{◌≡◌, refl}
use mathlib.Core.List.{[], ◌∷◌, ◌++◌}
use Rattle.octets.specs.Bytes.{number, zeros, all_zero, all_below}
use Rattle.cipher.specs.Key.{mcrypton_class, present_class, class_known, key_bytes}
use Rattle.layout.specs.Layout.{slots, key_class, edition_byte, last_write, rule1, rule2, rule3, edition_of, sheet_size, mark_at, field_at, slot_count, mark_number, mark_length, written_mark, mark, field, blank_slot, fit_slot, fit_in, fit}
use Rattle.listing.specs.Ascii.{ascii}
use Rattle.listing.specs.Listing.{digits, decimal, line, head_line, blank_line, written_line, slot_line, slot_lines, key_bits, listable, listing}
use Rattle.listing.specs.Printed.{written4, written6, written8, written_present}

pub written_example : written_line 1 3 17 ≡ ascii "1 written 3 17\n"
unfolding digits decimal line written_line
written_example = refl

pub listing_example : listing (0 ∷ 2 ∷ 4 ∷ 1 ∷ zeros 420) ≡ ascii "slots 2 key 64 last 0\n0 blank\n1 blank\n"
unfolding number zeros all_zero all_below mcrypton_class key_bytes slots key_class edition_byte last_write rule1 edition_of sheet_size mark_at field_at slot_count mark_number mark_length written_mark mark field blank_slot fit_slot fit_in fit digits decimal line head_line blank_line written_line slot_line slot_lines key_bits listable listing
listing_example = refl

pub listing_example_2 : listing (0 ∷ 2 ∷ 4 ∷ 2 ∷ (zeros 5 ++ (1 ∷ zeros 422))) ≡ ascii "slots 2 key 64 last 0\n0 blank\n1 blank\n"
unfolding number zeros all_zero all_below mcrypton_class key_bytes slots key_class edition_byte last_write rule2 edition_of sheet_size mark_at field_at slot_count mark_number mark_length written_mark mark field blank_slot fit_slot fit_in fit digits decimal line head_line blank_line written_line slot_line slot_lines key_bits listable listing
listing_example_2 = refl

pub written_4 : listing written4 ≡ ascii "slots 2 key 64 last 5\n0 blank\n1 written 3 17\n"
unfolding number zeros all_zero all_below mcrypton_class key_bytes slots key_class edition_byte last_write rule1 edition_of sheet_size mark_at field_at slot_count mark_number mark_length written_mark mark field blank_slot fit_slot fit_in fit digits decimal line head_line blank_line written_line slot_line slot_lines key_bits listable listing
written_4 = refl

pub written_6 : listing written6 ≡ ascii "slots 1 key 96 last 100000\n0 written 100000 192\n"
unfolding number zeros all_zero all_below mcrypton_class key_bytes slots key_class edition_byte last_write rule2 edition_of sheet_size mark_at field_at slot_count mark_number mark_length written_mark mark field blank_slot fit_slot fit_in fit digits decimal line head_line blank_line written_line slot_line slot_lines key_bits listable listing
written_6 = refl

pub written_8 : listing written8 ≡ ascii "slots 2 key 128 last 258\n0 written 10 0\n1 blank\n"
unfolding number zeros all_zero all_below mcrypton_class class_known key_bytes slots key_class edition_byte last_write rule3 edition_of sheet_size mark_at field_at slot_count mark_number mark_length written_mark mark field blank_slot fit_slot fit_in fit digits decimal line head_line blank_line written_line slot_line slot_lines key_bits listable listing
written_8 = refl

pub no_bytes : listing [] ≡ ascii "unfit\n"
unfolding listing listable fit fit_in edition_of edition_byte number line
no_bytes = refl

pub written_21 : listing (written_present 21) ≡ ascii "slots 1 key 80 last 3\n0 written 2 5\n"
unfolding number zeros all_zero all_below mcrypton_class present_class class_known key_bytes slots key_class edition_byte last_write rule3 edition_of sheet_size mark_at field_at slot_count mark_number mark_length written_mark mark field blank_slot fit_slot fit_in fit digits decimal line head_line blank_line written_line slot_line slot_lines key_bits listable listing
written_21 = refl

pub written_24 : listing (written_present 24) ≡ ascii "slots 1 key 128 last 3\n0 written 2 5\n"
unfolding number zeros all_zero all_below mcrypton_class present_class class_known key_bytes slots key_class edition_byte last_write rule3 edition_of sheet_size mark_at field_at slot_count mark_number mark_length written_mark mark field blank_slot fit_slot fit_in fit digits decimal line head_line blank_line written_line slot_line slot_lines key_bits listable listing
written_24 = refl
