-- the load of the own home as a part, whether the own latch is held or not
use Rattle.std.proofs.Common.{ℕ, Bool, []}
use Rattle.shm_words.specs.Layout.{address}
use Rattle.shm_words.specs.declared.place.Place.TheVariants as place
use Rattle.shm_graph.specs.declared.{ask.{Ask.TheVariants.Load, Me.Me}, memo.Memo.Memo, spot.Spot.TheVariants.Home}
use Rattle.shm_graph.specs.MemoAfterRead.{home_read}
use Rattle.plans.specs.{declared.word.Word.Word, Parts.Part, Words.word_part}
use Rattle.kind_parts.specs.WordParts.{Leaves, nothing_read, own_at}

-- the address of the own home
abbrev pub home_address : Me → ℕ
home_address me = address me.geometry (place.Home me.who)

-- the own home is loaded: where the own latch is held its block joins the looks
abbrev pub OwnHomeRead : ℕ → Memo → ℕ → Memo → Type 0
OwnHomeRead c = Leaves (own_at (Home c)) (λ m n. home_read m c n) nothing_read

abbrev pub home_part : Me → Bool → Part Word ℕ
home_part me first = word_part first me (Load (home_address me)) (OwnHomeRead me.who)
