-- The table of 2 ^ (i / 256) for i from 0 to 255, by the bits of its f64 values; specs/Nearest.antt has its rule.
use Rattle.std.specs.Prelude.{List, [], ◌∷◌, ℕ, get_or, Float}
use Rattle.std.specs.Float.{binary64}
use Rattle.std.specs.Float.Ieee.{of_bits}

unfoldable pub power_bits : List ℕ
power_bits =
    0x3ff0_0000_0000_0000 ∷ 0x3ff0_0b1a_fa5a_bcbf ∷ 0x3ff0_163d_a9fb_3335 ∷ 0x3ff0_2168_143b_0281 ∷ 0x3ff0_2c9a_3e77_8061 ∷
    0x3ff0_37d4_2e11_bbcc ∷ 0x3ff0_4315_e86e_7f85 ∷ 0x3ff0_4e5f_72f6_54b1 ∷ 0x3ff0_59b0_d315_8574 ∷ 0x3ff0_650a_0e3c_1f89 ∷
    0x3ff0_706b_29dd_f6de ∷ 0x3ff0_7bd4_2b72_a836 ∷ 0x3ff0_8745_1875_9bc8 ∷ 0x3ff0_92bd_f666_07e0 ∷ 0x3ff0_9e3e_cac6_f383 ∷
    0x3ff0_a9c7_9b1f_3919 ∷ 0x3ff0_b558_6cf9_890f ∷ 0x3ff0_c0f1_45e4_6c85 ∷ 0x3ff0_cc92_2b72_47f7 ∷ 0x3ff0_d83b_2339_5dec ∷
    0x3ff0_e3ec_32d3_d1a2 ∷ 0x3ff0_efa5_5fdf_a9c5 ∷ 0x3ff0_fb66_affe_d31b ∷ 0x3ff1_0730_28d7_233e ∷ 0x3ff1_1301_d012_5b51 ∷
    0x3ff1_1edb_ab5e_2ab6 ∷ 0x3ff1_2abd_c06c_31cc ∷ 0x3ff1_36a8_14f2_04ab ∷ 0x3ff1_429a_aea9_2de0 ∷ 0x3ff1_4e95_934f_312e ∷
    0x3ff1_5a98_c8a5_8e51 ∷ 0x3ff1_66a4_5471_c3c2 ∷ 0x3ff1_72b8_3c7d_517b ∷ 0x3ff1_7ed4_8695_bbc0 ∷ 0x3ff1_8af9_388c_8dea ∷
    0x3ff1_9726_5837_5d2f ∷ 0x3ff1_a35b_eb6f_cb75 ∷ 0x3ff1_af99_f813_8a1c ∷ 0x3ff1_bbe0_8404_5cd4 ∷ 0x3ff1_c82f_9528_1c6b ∷
    0x3ff1_d487_3168_b9aa ∷ 0x3ff1_e0e7_5eb4_4027 ∷ 0x3ff1_ed50_22fc_d91d ∷ 0x3ff1_f9c1_8438_ce4d ∷ 0x3ff2_063b_8862_8cd6 ∷
    0x3ff2_12be_3578_a819 ∷ 0x3ff2_1f49_917d_dc96 ∷ 0x3ff2_2bdd_a279_12d1 ∷ 0x3ff2_387a_6e75_6238 ∷ 0x3ff2_451f_fb82_140a ∷
    0x3ff2_51ce_4fb2_a63f ∷ 0x3ff2_5e85_711e_ce75 ∷ 0x3ff2_6b45_65e2_7cdd ∷ 0x3ff2_780e_341d_df29 ∷ 0x3ff2_84df_e1f5_6381 ∷
    0x3ff2_91ba_7591_bb70 ∷ 0x3ff2_9e9d_f51f_dee1 ∷ 0x3ff2_ab8a_66d1_0f13 ∷ 0x3ff2_b87f_d0da_d990 ∷ 0x3ff2_c57e_3977_1b2f ∷
    0x3ff2_d285_a6e4_030b ∷ 0x3ff2_df96_1f64_1589 ∷ 0x3ff2_ecaf_a93e_2f56 ∷ 0x3ff2_f9d2_4abd_886b ∷ 0x3ff3_06fe_0a31_b715 ∷
    0x3ff3_1432_edee_b2fd ∷ 0x3ff3_2170_fc4c_d831 ∷ 0x3ff3_2eb8_3ba8_ea32 ∷ 0x3ff3_3c08_b264_16ff ∷ 0x3ff3_4962_66e3_fa2d ∷
    0x3ff3_56c5_5f92_9ff1 ∷ 0x3ff3_6431_a2de_883b ∷ 0x3ff3_71a7_373a_a9cb ∷ 0x3ff3_7f26_231e_754a ∷ 0x3ff3_8cae_6d05_d866 ∷
    0x3ff3_9a40_1b71_40ef ∷ 0x3ff3_a7db_34e5_9ff7 ∷ 0x3ff3_b57f_bfec_6cf4 ∷ 0x3ff3_c32d_c313_a8e5 ∷ 0x3ff3_d0e5_44ed_e173 ∷
    0x3ff3_dea6_4c12_3422 ∷ 0x3ff3_ec70_df1c_5175 ∷ 0x3ff3_fa45_04ac_801c ∷ 0x3ff4_0822_c367_a024 ∷ 0x3ff4_160a_21f7_2e2a ∷
    0x3ff4_23fb_2709_468a ∷ 0x3ff4_31f5_d950_a897 ∷ 0x3ff4_3ffa_3f84_b9d4 ∷ 0x3ff4_4e08_6061_892d ∷ 0x3ff4_5c20_42a7_d232 ∷
    0x3ff4_6a41_ed1d_0057 ∷ 0x3ff4_786d_668b_3237 ∷ 0x3ff4_86a2_b5c1_3cd0 ∷ 0x3ff4_94e1_e192_aed2 ∷ 0x3ff4_a32a_f0d7_d3de ∷
    0x3ff4_b17d_ea6d_b7d7 ∷ 0x3ff4_bfda_d536_2a27 ∷ 0x3ff4_ce41_b817_c114 ∷ 0x3ff4_dcb2_99fd_dd0d ∷ 0x3ff4_eb2d_81d8_abff ∷
    0x3ff4_f9b2_769d_2ca7 ∷ 0x3ff5_0841_7f45_31ee ∷ 0x3ff5_16da_a2cf_6642 ∷ 0x3ff5_257d_e83f_4eef ∷ 0x3ff5_342b_569d_4f82 ∷
    0x3ff5_42e2_f4f6_ad27 ∷ 0x3ff5_51a4_ca5d_920f ∷ 0x3ff5_6070_dde9_10d2 ∷ 0x3ff5_6f47_36b5_27da ∷ 0x3ff5_7e27_dbe2_c4cf ∷
    0x3ff5_8d12_d497_c7fd ∷ 0x3ff5_9c08_27ff_07cc ∷ 0x3ff5_ab07_dd48_5429 ∷ 0x3ff5_ba11_fba8_7a03 ∷ 0x3ff5_c926_8a59_46b7 ∷
    0x3ff5_d845_9099_8b93 ∷ 0x3ff5_e76f_15ad_2148 ∷ 0x3ff5_f6a3_20dc_eb71 ∷ 0x3ff6_05e1_b976_dc09 ∷ 0x3ff6_152a_e6cd_f6f4 ∷
    0x3ff6_247e_b03a_5585 ∷ 0x3ff6_33dd_1d19_29fd ∷ 0x3ff6_4346_34cc_c320 ∷ 0x3ff6_52b9_febc_8fb7 ∷ 0x3ff6_6238_8255_2225 ∷
    0x3ff6_71c1_c708_33f6 ∷ 0x3ff6_8155_d44c_a973 ∷ 0x3ff6_90f4_b19e_9538 ∷ 0x3ff6_a09e_667f_3bcd ∷ 0x3ff6_b052_fa75_173e ∷
    0x3ff6_c012_750b_dabf ∷ 0x3ff6_cfdc_ddd4_7645 ∷ 0x3ff6_dfb2_3c65_1a2f ∷ 0x3ff6_ef92_9859_3ae5 ∷ 0x3ff6_ff7d_f951_9484 ∷
    0x3ff7_0f74_66f4_2e87 ∷ 0x3ff7_1f75_e8ec_5f74 ∷ 0x3ff7_2f82_86ea_d08a ∷ 0x3ff7_3f9a_48a5_8174 ∷ 0x3ff7_4fbd_35d7_cbfd ∷
    0x3ff7_5feb_5642_67c9 ∷ 0x3ff7_7024_b1ab_6e09 ∷ 0x3ff7_8069_4fde_5d3f ∷ 0x3ff7_90b9_38ac_1cf6 ∷ 0x3ff7_a114_73eb_0187 ∷
    0x3ff7_b17b_0976_cfdb ∷ 0x3ff7_c1ed_0130_c132 ∷ 0x3ff7_d26a_62ff_86f0 ∷ 0x3ff7_e2f3_36cf_4e62 ∷ 0x3ff7_f387_8491_c491 ∷
    0x3ff8_0427_543e_1a12 ∷ 0x3ff8_14d2_add1_06d9 ∷ 0x3ff8_2589_994c_ce13 ∷ 0x3ff8_364c_1eb9_41f7 ∷ 0x3ff8_471a_4623_c7ad ∷
    0x3ff8_57f4_179f_5b21 ∷ 0x3ff8_68d9_9b44_92ed ∷ 0x3ff8_79ca_d931_a436 ∷ 0x3ff8_8ac7_d98a_6699 ∷ 0x3ff8_9bd0_a478_580f ∷
    0x3ff8_ace5_422a_a0db ∷ 0x3ff8_be05_bad6_1778 ∷ 0x3ff8_cf32_16b5_448c ∷ 0x3ff8_e06a_5e08_66d9 ∷ 0x3ff8_f1ae_9915_7736 ∷
    0x3ff9_02fe_d028_2c8a ∷ 0x3ff9_145b_0b91_ffc6 ∷ 0x3ff9_25c3_53aa_2fe2 ∷ 0x3ff9_3737_b0cd_c5e5 ∷ 0x3ff9_48b8_2b5f_98e5 ∷
    0x3ff9_5a44_cbc8_520f ∷ 0x3ff9_6bdd_9a76_70b3 ∷ 0x3ff9_7d82_9fde_4e50 ∷ 0x3ff9_8f33_e47a_22a2 ∷ 0x3ff9_a0f1_70ca_07ba ∷
    0x3ff9_b2bb_4d53_fe0d ∷ 0x3ff9_c491_82a3_f090 ∷ 0x3ff9_d674_194b_b8d5 ∷ 0x3ff9_e863_19e3_2323 ∷ 0x3ff9_fa5e_8d07_f29e ∷
    0x3ffa_0c66_7b5d_e565 ∷ 0x3ffa_1e7a_ed8e_b8bb ∷ 0x3ffa_309b_ec4a_2d33 ∷ 0x3ffa_42c9_8046_0ad8 ∷ 0x3ffa_5503_b23e_255d ∷
    0x3ffa_674a_8af4_6052 ∷ 0x3ffa_799e_1330_b358 ∷ 0x3ffa_8bfe_53c1_2e59 ∷ 0x3ffa_9e6b_5579_fdbf ∷ 0x3ffa_b0e5_2135_6eba ∷
    0x3ffa_c36b_bfd3_f37a ∷ 0x3ffa_d5ff_3a3c_2774 ∷ 0x3ffa_e89f_995a_d3ad ∷ 0x3ffa_fb4c_e622_f2ff ∷ 0x3ffb_0e07_298d_b666 ∷
    0x3ffb_20ce_6c9a_8952 ∷ 0x3ffb_33a2_b84f_15fb ∷ 0x3ffb_4684_15b7_49b1 ∷ 0x3ffb_5972_8de5_593a ∷ 0x3ffb_6c6e_29f1_c52a ∷
    0x3ffb_7f76_f2fb_5e47 ∷ 0x3ffb_928c_f227_49e4 ∷ 0x3ffb_a5b0_30a1_064a ∷ 0x3ffb_b8e0_b79a_6f1f ∷ 0x3ffb_cc1e_904b_c1d2 ∷
    0x3ffb_df69_c3f3_a207 ∷ 0x3ffb_f2c2_5bd7_1e09 ∷ 0x3ffc_0628_6141_b33d ∷ 0x3ffc_199b_dd85_529c ∷ 0x3ffc_2d1c_d9fa_652c ∷
    0x3ffc_40ab_5fff_d07a ∷ 0x3ffc_5447_78fa_fb22 ∷ 0x3ffc_67f1_2e57_d14b ∷ 0x3ffc_7ba8_8988_c933 ∷ 0x3ffc_8f6d_9406_e7b5 ∷
    0x3ffc_a340_5751_c4db ∷ 0x3ffc_b720_dcef_9069 ∷ 0x3ffc_cb0f_2e6d_1675 ∷ 0x3ffc_df0b_555d_c3fa ∷ 0x3ffc_f315_5b5b_ab74 ∷
    0x3ffd_072d_4a07_897c ∷ 0x3ffd_1b53_2b08_c968 ∷ 0x3ffd_2f87_080d_89f2 ∷ 0x3ffd_43c8_eaca_a1d6 ∷ 0x3ffd_5818_dcfb_a487 ∷
    0x3ffd_6c76_e862_e6d3 ∷ 0x3ffd_80e3_16c9_8398 ∷ 0x3ffd_955d_71ff_6075 ∷ 0x3ffd_a9e6_03db_3285 ∷ 0x3ffd_be7c_d63a_8315 ∷
    0x3ffd_d321_f301_b460 ∷ 0x3ffd_e7d5_641c_0658 ∷ 0x3ffd_fc97_337b_9b5f ∷ 0x3ffe_1167_6b19_7d17 ∷ 0x3ffe_2646_14f5_a129 ∷
    0x3ffe_3b33_3b16_ee12 ∷ 0x3ffe_502e_e78b_3ff6 ∷ 0x3ffe_6539_2467_6d76 ∷ 0x3ffe_7a51_fbc7_4c83 ∷ 0x3ffe_8f79_77cd_b740 ∷
    0x3ffe_a4af_a2a4_90da ∷ 0x3ffe_b9f4_867c_ca6e ∷ 0x3ffe_cf48_2d8e_67f1 ∷ 0x3ffe_e4aa_a218_8510 ∷ 0x3ffe_fa1b_ee61_5a27 ∷
    0x3fff_0f9c_1cb6_412a ∷ 0x3fff_252b_376b_ba97 ∷ 0x3fff_3ac9_48dd_7274 ∷ 0x3fff_5076_5b6e_4540 ∷ 0x3fff_6632_7988_44f8 ∷
    0x3fff_7bfd_ad9c_be14 ∷ 0x3fff_91d8_0224_3c89 ∷ 0x3fff_a7c1_819e_90d8 ∷ 0x3fff_bdba_3692_d514 ∷ 0x3fff_d3c2_2b8f_71f1 ∷
    0x3fff_e9d9_6b2a_23d9 ∷ []

-- A[i]
unfoldable pub power : ℕ → Float
power i = of_bits binary64 (get_or power_bits i 0)
