use Rattle.texts.proofs.Dealing.{dealing}
use Rattle.texts.proofs.Returning.{returning, one_deck}
use Rattle.texts.proofs.decks_of_tables.Goals as goal

pub returns : goal.returns
returns g c = λ vs sound.
    let K = g.K.Ring.kind in
    let m = g.met.K.Ring in
    record {
      back = returning K m.ring m.values m.writing vs sound;
      one_deck = one_deck K m.ring m.values m.writing vs sound;
      terms = dealing K m.ring m.values m.writing vs sound.some;
    }
