-- The window: W(n) = sin(pi/2 sin(pi/2 (n + 1/2) / 120)^2), its 120 rising values by their bits.
use Rattle.std.specs.Prelude.{◌≡◌, refl, List, [], ◌∷◌, map, cond, ℕ, ◌-◌, ltb, length, get_or, Float}
use Rattle.std.specs.Float.{nan, binary32}
use Rattle.std.specs.Float.Ieee.{of_bits}

unfoldable pub window_bits : List ℕ
window_bits =
    0x388d_1c6a ∷
    0x3a1e_bb52 ∷
    0x3adc_6908 ∷
    0x3b57_ed82 ∷
    0x3bb2_6389 ∷
    0x3c05_2a03 ∷
    0x3c39_dc31 ∷
    0x3c77_3eb3 ∷
    0x3c9e_a31c ∷
    0x3cc5_f2d1 ∷
    0x3cf1_86fe ∷
    0x3d10_ab9b ∷
    0x3d2a_ad05 ∷
    0x3d46_c284 ∷
    0x3d64_e653 ∷
    0x3d82_8911 ∷
    0x3d93_9f87 ∷
    0x3da5_b2cb ∷
    0x3db8_bed1 ∷
    0x3dcc_bf3a ∷
    0x3de1_af53 ∷
    0x3df7_8a14 ∷
    0x3e07_250e ∷
    0x3e12_f4d9 ∷
    0x3e1f_315f ∷
    0x3e2b_d767 ∷
    0x3e38_e38a ∷
    0x3e46_5230 ∷
    0x3e54_1f94 ∷
    0x3e62_47bf ∷
    0x3e70_c68e ∷
    0x3e7f_97b0 ∷
    0x3e87_5b52 ∷
    0x3e8f_0f60 ∷
    0x3e96_e598 ∷
    0x3e9e_db79 ∷
    0x3ea6_ee70 ∷
    0x3eaf_1bd8 ∷
    0x3eb7_60fb ∷
    0x3ebf_bb11 ∷
    0x3ec8_2746 ∷
    0x3ed0_a2b7 ∷
    0x3ed9_2a78 ∷
    0x3ee1_bb94 ∷
    0x3eea_530c ∷
    0x3ef2_edde ∷
    0x3efb_8906 ∷
    0x3f02_10be ∷
    0x3f06_5a1f ∷
    0x3f0a_9f24 ∷
    0x3f0e_de50 ∷
    0x3f13_162b ∷
    0x3f17_4541 ∷
    0x3f1b_6a25 ∷
    0x3f1f_8373 ∷
    0x3f23_8fce ∷
    0x3f27_8de6 ∷
    0x3f2b_7c74 ∷
    0x3f2f_5a3f ∷
    0x3f33_2619 ∷
    0x3f36_dee7 ∷
    0x3f3a_8399 ∷
    0x3f3e_1333 ∷
    0x3f41_8cc5 ∷
    0x3f44_ef77 ∷
    0x3f48_3a7f ∷
    0x3f4b_6d27 ∷
    0x3f4e_86ce ∷
    0x3f51_86e5 ∷
    0x3f54_6cf1 ∷
    0x3f57_388e ∷
    0x3f59_e969 ∷
    0x3f5c_7f45 ∷
    0x3f5e_f9fa ∷
    0x3f61_5973 ∷
    0x3f63_9daf ∷
    0x3f65_c6c1 ∷
    0x3f67_d4cf ∷
    0x3f69_c811 ∷
    0x3f6b_a0d2 ∷
    0x3f6d_5f6e ∷
    0x3f6f_0450 ∷
    0x3f70_8ff4 ∷
    0x3f72_02e6 ∷
    0x3f73_5dbd ∷
    0x3f74_a11f ∷
    0x3f75_cdbf ∷
    0x3f76_e457 ∷
    0x3f77_e5b0 ∷
    0x3f78_d297 ∷
    0x3f79_abe3 ∷
    0x3f7a_7273 ∷
    0x3f7b_2727 ∷
    0x3f7b_cae7 ∷
    0x3f7c_5e9d ∷
    0x3f7c_e335 ∷
    0x3f7d_599c ∷
    0x3f7d_c2bd ∷
    0x3f7e_1f86 ∷
    0x3f7e_70de ∷
    0x3f7e_b7ab ∷
    0x3f7e_f4cf ∷
    0x3f7f_2926 ∷
    0x3f7f_5586 ∷
    0x3f7f_7abe ∷
    0x3f7f_9996 ∷
    0x3f7f_b2cc ∷
    0x3f7f_c715 ∷
    0x3f7f_d71c ∷
    0x3f7f_e382 ∷
    0x3f7f_ecdd ∷
    0x3f7f_f3b6 ∷
    0x3f7f_f88a ∷
    0x3f7f_fbc8 ∷
    0x3f7f_fdd6 ∷
    0x3f7f_ff07 ∷
    0x3f7f_ffa5 ∷
    0x3f7f_ffe8 ∷
    0x3f7f_fffd ∷
    0x3f80_0000 ∷
    []

unfoldable pub window : List Float
window = map (of_bits binary32) window_bits

pub length-window : length window ≡ 120
unfolding window window_bits
length-window = refl

-- The window of one long block of n + 120 samples, w being the rising half: it rises, stays at 1 and falls.
-- These are the samples (n - 120) / 2 + j of the 2 n that build_low_overlap_window_f32 gives; the others there are 0.
unfoldable pub low_overlap_window : List Float → ℕ → ℕ → Float
low_overlap_window w n j =
    cond (ltb j 120) (get_or w j nan)
    (cond (ltb j n) (of_bits binary32 0x3f80_0000) (cond (ltb (j - n) 120) (get_or w (119 - (j - n)) nan) (of_bits binary32 0)))
