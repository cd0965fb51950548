use Rattle.std.proofs.Common.{◌^◌, ◌<◌, ap, ◌∙◌, arith}
use lib.Ieee.{binary32, of_int}
use Rattle.float_bits.specs.Words.{noise_step, noise_value}
use Rattle.float_bits.proofs.Word.{shifted, signed_is}
use Rattle.float_bits.proofs.words.noise_value.Goals as goal

pub returns : goal.returns
unfolding noise_value noise_step
returns c =
    let l : c.args.w < 2 ^ 32 = omega arith in
    ap (of_int binary32) (shifted c.args.w (2 ^ 20) c.cast_signed.result l (c.cast_signed.ensures ∙ signed_is c.args.w l))
