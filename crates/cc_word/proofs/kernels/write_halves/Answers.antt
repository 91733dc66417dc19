use Rattle.std.proofs.Common.{◌≡◌, ◌∙◌}
use Rattle.cc_word.specs.WordText.{digits_of}
use Rattle.cc_word.proofs.DigitLemmas.{length-digits_of}
use Rattle.cc_word.proofs.TextLemmas.{put_halves}
use Rattle.cc_word.proofs.kernels.write_halves.Goals as goal

pub returns : goal.returns
returns c =
    let first : c.copy_from_slice.new.self ≡ digits_of 16 c.args.high = c.copy_from_slice.ensures.after ∙ c.write_half.ensures in
    let second : c.copy_from_slice-2.new.self ≡ digits_of 16 c.args.low = c.copy_from_slice-2.ensures.after ∙ c.write_half-2.ensures in
    rw (first, second)
    (put_halves c.args.text.now (digits_of 16 c.args.high) (digits_of 16 c.args.low) c.told-text
    (length-digits_of 16 c.args.high) (length-digits_of 16 c.args.low))
