-- `from_words` meets its contract: field by field.
use Rattle.state_words.specs.Words.{settings_by, filter_by, state_by, word_in}
use Rattle.state_words.proofs.from_words.Goals as goal

pub returns : goal.returns
unfolding state_by settings_by filter_by
returns c = λ i.
    let w = word_in c.args.w.now in
    record {
      settings = settings_by w;
      loss_count = w 5;
      seed = w 6;
      lag = w 7;
      filter = record { gain = c.from_word.ensures i; period = w 8; tapset = w 10 };
      coarse = c.floats_in.ensures i;
      background = c.floats_in-2.ensures i;
      memories = c.floats_in-3.ensures i;
      predictor = c.floats_in-4.ensures i;
    }
