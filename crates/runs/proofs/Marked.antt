-- The marked examples, by computation; the draws from the law on every noise loss.
use mathlib.Core.Path.{◌≡◌, refl, ap, ◌∙◌}
use mathlib.Core.Bool.{cond}
use Prim.Native.Nat.{ℕ, zero, suc}
use native.Mathlib.Omega.{arith}
use lib.ListN.{length}
use Rattle.float_narrow.specs.Marked.{marked_rounding}
use Rattle.float_root.specs.Marked.{marked-roots}
use Rattle.draw.specs.Draw.{draws}
use Rattle.draw.specs.Marked.{drawn, heard}
use Rattle.custom_mode.specs.Mode.{edges, edge}
use Rattle.band_gain.specs.Marked.{gains}
use Rattle.post_filter.specs.Limits.{filter_fits}
use Rattle.settings.specs.Number.{or_else}
use Rattle.settings.specs.Settings.{factor, first_bin, draws_per_loss, check_settings}
use Rattle.state.specs.Refusal.{refuses_state, refusal}
use Rattle.loss.specs.Loss.{blocks, noise_made, pitch_made, made, finish, concealed, refused, answered, loss}
use Rattle.runs.specs.Marked.{settings_at, Draws, MarkedEdges}
use Rattle.runs.proofs.Noise.{noise_draws}

-- settings that pass, and the draws of a noise loss there
counts : (lm channels start d : ℕ) → check_settings (settings_at lm channels start) ≡ 0 → draws_per_loss (settings_at lm channels start) ≡ d → Draws lm channels start d
unfolding loss answered concealed refused finish made noise_made blocks
counts lm channels start d good e s h p k z = go (refusal s (length h) p)
  where
    go : (n : ℕ) → (answered n s h).report.number ≡ 0 → (answered n s h).state.seed ≡ draws d s.seed
    go zero w =
        ap (λ b. (cond b (noise_made s) (pitch_made s h)).seed) z
        ∙ noise_draws s.settings (ap check_settings k ∙ good) s.seed _
        ∙ ap (λ n. draws n s.seed) (ap draws_per_loss k ∙ e)
    go (suc n) w = omega arith

pub marked-edges : MarkedEdges
unfolding factor first_bin edge edges draws_per_loss refuses_state or_else check_settings filter_fits
marked-edges = record {
  drawn = drawn;
  heard = heard;
  counted = (counts 0 1 0 100 refl refl, counts 3 2 0 1600 refl refl, counts 3 2 17 960 refl refl, counts 0 1 20 22 refl refl);
  roots = marked-roots;
  rounded = marked_rounding;
  gains = gains;
  lags = (refl, refl, refl, refl);
}
