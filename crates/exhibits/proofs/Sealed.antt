-- What the exhibited keys make of blocks, by computing: each once, so that the calls can cite it.
use mathlib.Core.Path.{◌≡◌, refl}
use mathlib.Core.List.{[], ◌∷◌, ◌++◌}
use Rattle.octets.specs.Bytes.{be, zeros}
use Rattle.rounds.specs.Word.{rotate1, rotate}
use Rattle.rounds.specs.Array.{sboxes, sbox, γ, π, τ}
use Rattle.schedule.specs.Schedule.{by_count, forward_words, forward4, forward6, forward8, forward, backward_words, backward4, backward6, backward8, backward, start, eight_words, start_words, start4, start6, start8, back_start, times, register, constants, register_t, last_word, round_key, encryption_key}
use Rattle.mcrypton.specs.Cipher.{by_words, after_by, steps, encrypt_block}
use Rattle.mcrypton.specs.Bytes.{words_of, bytes_of, encrypt_bytes}
use Rattle.mcrypton.specs.Registers.{encrypt_from, decrypt_from}
use Rattle.chip_bench.specs.Bench.{taken_back, leading_block}
use Rattle.modes.specs.Xor.{xor_bytes}
use Rattle.modes.specs.Cbc.{cbc_encrypt, cbc_decrypt}
use Rattle.modes.specs.Cmac.{shift_left, double, block_count, last_block, message_block, chain, cmac}
use Rattle.cipher.specs.Key.{present_class, loaded, key_register, mcrypton_encrypted, mcrypton_decrypted, encrypted, decrypted}
use Rattle.captions.specs.Captions.{Ciphers, loaded_for, padded, mark_block, key_mark, start_block, sealed_field, opened_field, check_of}
use Rattle.exhibits.specs.Values.{sealing_key, checking_key, wanted, leading, abc, abc_check, abc_field, abc_mark, two_mark, last_field, last_mark, keys}

-- the keys loaded for class 4
abbrev pub loaded_keys : Ciphers
loaded_keys = loaded_for 4 keys

pub block_leads : leading_block checking_key 1 wanted ≡ leading
unfolding rotate1 rotate sboxes sbox γ π τ by_count forward_words forward4 forward6 forward8 forward backward_words backward4 backward6 backward8 backward start_words start4 start6 start8 back_start eight_words times constants register_t last_word round_key by_words after_by steps words_of bytes_of start register taken_back leading_block
block_leads = refl

pub text_checked : cmac (encrypt_bytes 0 sealing_key) abc ≡ abc_check
unfolding rotate1 rotate sboxes sbox γ π τ by_count forward_words forward4 forward6 forward8 forward eight_words times constants register_t last_word round_key by_words after_by steps words_of bytes_of start register encryption_key encrypt_block encrypt_bytes xor_bytes shift_left double block_count last_block message_block chain cmac zeros be
text_checked = refl

pub mark_made : key_mark loaded_keys 1 4 258 ≡ 0xf7 ∷ 0x47 ∷ 0x9f ∷ 0x65 ∷ 0xab ∷ 0x85 ∷ []
unfolding rotate1 rotate sboxes sbox γ π τ by_count forward_words forward4 forward6 forward8 forward eight_words times constants register_t last_word round_key by_words after_by steps words_of bytes_of encrypt_from loaded key_register present_class mcrypton_encrypted encrypted loaded_for xor_bytes shift_left double block_count last_block message_block chain cmac zeros be mark_block key_mark
mark_made = refl

pub field_sealed : sealed_field loaded_keys 0 1 0 abc ≡ abc_field
unfolding rotate1 rotate sboxes sbox γ π τ by_count forward_words forward4 forward6 forward8 forward eight_words times constants register_t last_word round_key by_words after_by steps words_of bytes_of encrypt_from loaded key_register present_class mcrypton_encrypted encrypted loaded_for xor_bytes zeros be cbc_encrypt padded start_block sealed_field
field_sealed = refl

pub field_opened : opened_field loaded_keys 0 1 0 abc_field ≡ abc ++ zeros 189
unfolding rotate1 rotate sboxes sbox γ π τ by_count forward_words forward4 forward6 forward8 forward backward_words backward4 backward6 backward8 backward start_words start4 start6 start8 back_start eight_words times constants register_t last_word round_key by_words after_by steps words_of bytes_of encrypt_from loaded key_register present_class mcrypton_encrypted encrypted loaded_for decrypt_from mcrypton_decrypted decrypted xor_bytes zeros be cbc_decrypt start_block opened_field
field_opened = refl

pub field_checked : check_of loaded_keys 1 0 3 abc_field ≡ abc_mark
unfolding rotate1 rotate sboxes sbox γ π τ by_count forward_words forward4 forward6 forward8 forward eight_words times constants register_t last_word round_key by_words after_by steps words_of bytes_of encrypt_from loaded key_register present_class mcrypton_encrypted encrypted loaded_for xor_bytes shift_left double block_count last_block message_block chain cmac zeros be check_of
field_checked = refl

pub two_checked : check_of loaded_keys 1 0 2 abc_field ≡ two_mark
unfolding rotate1 rotate sboxes sbox γ π τ by_count forward_words forward4 forward6 forward8 forward eight_words times constants register_t last_word round_key by_words after_by steps words_of bytes_of encrypt_from loaded key_register present_class mcrypton_encrypted encrypted loaded_for xor_bytes shift_left double block_count last_block message_block chain cmac zeros be check_of
two_checked = refl

-- the same under the last write number

pub last_sealed : sealed_field loaded_keys 0 4294967295 0 abc ≡ last_field
unfolding rotate1 rotate sboxes sbox γ π τ by_count forward_words forward4 forward6 forward8 forward eight_words times constants register_t last_word round_key by_words after_by steps words_of bytes_of encrypt_from loaded key_register present_class mcrypton_encrypted encrypted loaded_for xor_bytes zeros be cbc_encrypt padded start_block sealed_field
last_sealed = refl

pub last_checked : check_of loaded_keys 4294967295 0 3 last_field ≡ last_mark
unfolding rotate1 rotate sboxes sbox γ π τ by_count forward_words forward4 forward6 forward8 forward eight_words times constants register_t last_word round_key by_words after_by steps words_of bytes_of encrypt_from loaded key_register present_class mcrypton_encrypted encrypted loaded_for xor_bytes shift_left double block_count last_block message_block chain cmac zeros be check_of
last_checked = refl
