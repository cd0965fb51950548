-- What a call answers, in document 01's numbers.
use Rattle.std.specs.Prelude.{ℕ, List, [], ◌∷◌, Result, Ok, Err}
use Rattle.settings.specs.Number.{number_of}
use Rattle.settings.specs.declared.Refusal.{Refusal}
use Rattle.state.specs.declared.Answer.{Answer}
use Rattle.state.specs.declared.Kind.{Kind}
use Rattle.state.specs.declared.Kind.TheVariants.{Pitch, Noise}

-- 1 the pitch path, 2 the noise path
abbrev pub kind_of : Kind → ℕ
kind_of Pitch = 1
kind_of Noise = 2

-- the number, the kind (0 a refusal) and the PCM samples written
pub record Report : Type 0 where
  pub number : ℕ
  pub kind : ℕ
  pub samples : ℕ

abbrev pub report_of : Result Answer Refusal → Report
report_of (Ok a) = record { number = 0; kind = a.kind; samples = a.samples }
report_of (Err e) = record { number = number_of e; kind = 0; samples = 0 }

-- number, kind and sample count
abbrev pub answer_words : Report → List ℕ
answer_words r = r.number ∷ r.kind ∷ r.samples ∷ []
