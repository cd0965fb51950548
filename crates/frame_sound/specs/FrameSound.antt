-- The sound of a frame: de-emphasis of a history's newest samples, as a caller finds it in his buffer.
use Rattle.std.specs.Prelude.{Bool, ◌&&◌, List, ℕ, length, eqb, leb, Float}
use Rattle.loops.specs.Front.{front}
use Rattle.history.specs.History.{newest, whole}
use Rattle.settings.specs.Settings.{frame, stereo, check_settings, needed}
use Rattle.settings.specs.declared.Settings.{Settings}
use Rattle.deemphasis.specs.Deemphasis.{Sound, sound, deemphasis}

-- de-emphasis of the newest N of each used channel
unfoldable pub frame_sound : Settings → List Float → List Float → Sound
frame_sound k memories h = deemphasis k.downsample (newest (stereo k) (frame k) h) memories

-- samples written into a buffer's first places; the rest of a longer one is as it was
abbrev pub written : List Float → List Float → List Float
written x p = front x p (length x)

unfoldable pub sound_in : List Float → Sound → Sound
sound_in p y = sound (written y.pcm p) y.memories

-- which settings, how many samples of history, how much room
unfoldable pub sound_takes : Settings → ℕ → ℕ → Bool
sound_takes k n p = eqb (check_settings k) 0 && (eqb n whole && leb (needed k) p)
