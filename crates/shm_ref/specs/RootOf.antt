-- what a root names, as a plan of one word step
use Rattle.std.specs.Prelude.{◌≡◌, ℕ, ◌%◌, ◌^◌, ◌<◌, true, false, Some, List, [], ◌∷◌}
use Rattle.shm_words.specs.Layout.{GeometryFits, address, address_limit}
use Rattle.shm_words.specs.declared.place.Place.TheVariants as place
use Rattle.shm_graph.specs.{declared.{ask.{Ask.{Ask, TheVariants.Load}, Me.Me}, memo.Memo.Memo}, Asks.{Trail, pair}}
use Rattle.shm_graph.specs.{Events.Event, Core.core}
use Rattle.plans.specs.{declared.word.Word.Word, Plans.Planned, Steering.Steered}
use Rattle.shm_count.specs.Roots.{root_word}
use Rattle.shm_ref.specs.{declared.root_of.NamingState.NamingState, AskedParts.asked_part, Lefts.MayDrop}
use Rattle.shm_ref.specs.RootParts.{load_part}

-- before its word step
abbrev pub naming : Me → ℕ → NamingState
naming me k = record { me = me; root = k }

abbrev pub naming_ask : Me → ℕ → Ask
naming_ask me k = Load (address me.geometry (place.Root me.who k))

-- what the control keeps in range
pub record NamingInRange (m : NamingState) : Type 0 where
  pub geometry : GeometryFits m.me.geometry
  pub who : m.me.who < m.me.geometry.clients
  pub root : m.root < 16

-- nothing was done yet
pub record IsNaming (me : Me) (k : ℕ) (r0 r : Memo) (tr : Trail) (es : List Event) : Type 0 where
  pub may : MayDrop me r0
  pub low : k < 16
  pub same : r ≡ r0
  pub none : tr ≡ []
  pub quiet : es ≡ []

-- root k names b, and nothing else came of the word step that read it
pub record Named (me : Me) (k : ℕ) (r0 r : Memo) (tr : Trail) (es : List Event) (b : ℕ) : Type 0 where
  pub memo : core r ≡ core r0
  pub names : b ≡ root_word me.who r0 k
  pub none : es ≡ []
  pub trail : tr ≡ pair (naming_ask me k) b ∷ []

abbrev pub naming_steered : Steered NamingState Word ℕ ℕ
naming_steered =
    record {
      me = λ m. m.me;
      line = λ m. [];
      first = λ m. true;
      start = λ m. m;
      call = λ m. record { me = m.me; ask = naming_ask m.me m.root; over = false };
      after = λ m n. m;
      turns = λ m n. Some (n % address_limit);
    }

abbrev pub naming_plan : Planned NamingState Word ℕ ℕ
naming_plan =
    record {
      steered = naming_steered;
      part = λ m. asked_part (load_part m.me m.root true);
      knows = λ m. IsNaming m.me m.root;
      leaves = λ m. Named m.me m.root;
    }
