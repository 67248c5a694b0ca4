-- a text on its way to a sink, and what goes behind it
use Rattle.std.proofs.Common.{◌≡◌, ℕ, List, [], ◌++◌, append_assoc, append-nil, refl, sym, ap, ◌∙◌, subst}
use Rattle.std.specs.Prelude.{Option, Some, None}
use Rattle.std.specs.Borrow.{MutBor}
use Rattle.shm_io.specs.{Faults.Rose, Writing.Appends}
use Rattle.run_view.specs.{declared.pipe.Stop.{Stop, TheVariants.{Memory, Fault}}, Piped.{Adds, Ends, IsFrom, IsSent, IsSentFrom, IsSome, IsTold, IsUnderWay, Sending, Writes}}

-- ---- bytes behind bytes

appends_more : (a b c : Option (List ℕ)) (t u : List ℕ) → Appends a b t → Appends b c u → Appends a c (t ++ u)
appends_more None b c t u first then = subst (λ (x : Option (List ℕ)). Appends x c u) first then
appends_more (Some h) b c t u first then = subst (λ (x : Option (List ℕ)). Appends x c u) first then ∙ ap Some (append_assoc h t u)

pub adds_more : {A : Type 0} {held : A → Option (List ℕ)} {faults : A → ℕ} {x y z : Sending A} {a b : List ℕ} → Adds held faults x y a → Adds held faults y z b → Adds held faults x z (a ++ b)
adds_more {A} {held} {faults} {x} {y} {z} {a} {b} first then = record { adds = λ f text on. subst (λ (t : List ℕ). IsUnderWay held faults f t z) (append_assoc text a b) (then.adds f (text ++ a) (first.adds f text on)) }

-- what was written behind a text of which nothing is kept
pub adds_written : {A : Type 0} {held : A → Option (List ℕ)} {faults : A → ℕ} (x y : Sending A) (bytes : List ℕ) → x.kept ≡ [] → y.kept ≡ [] → Writes held faults x.stop x.sink y.stop y.sink bytes → Adds held faults x y bytes
adds_written x y bytes none left w = record {
  adds = λ f text on.
      let all : text ≡ on.front = on.whole ∙ (ap (λ (k : List ℕ). on.front ++ k) none ∙ append-nil on.front) in
      record {
        front = on.front ++ bytes;
        sent = w.writes f on.front on.sent;
        whole = ap (λ (t : List ℕ). t ++ bytes) all ∙ (sym (append-nil (on.front ++ bytes)) ∙ ap (λ (k : List ℕ). (on.front ++ bytes) ++ k) (sym left));
      };
}

-- what was kept is written
pub ends_written : {A : Type 0} {held : A → Option (List ℕ)} {faults : A → ℕ} (x : Sending A) (stop : Option Stop) (sink : MutBor A) → Writes held faults x.stop x.sink stop sink x.kept → Ends held faults x stop sink
ends_written {A} {held} {faults} x stop sink w = record { ends = λ f text on. subst (λ (t : List ℕ). IsSent held faults f t stop sink) (sym on.whole) (w.writes f on.front on.sent) }

pub flushed : {A : Type 0} {held : A → Option (List ℕ)} {faults : A → ℕ} (x y : Sending A) → y.kept ≡ [] → Writes held faults x.stop x.sink y.stop y.sink x.kept → Adds held faults x y []
flushed x y left w = record {
  adds = λ f text on. record {
    front = on.front ++ x.kept;
    sent = w.writes f on.front on.sent;
    whole = append-nil text ∙ (on.whole ∙ (sym (append-nil (on.front ++ x.kept)) ∙ ap (λ (k : List ℕ). (on.front ++ x.kept) ++ k) (sym left)));
  };
}

-- what is kept
pub keeps : {A : Type 0} {held : A → Option (List ℕ)} {faults : A → ℕ} (x y : Sending A) (bytes : List ℕ) → y.stop ≡ x.stop → y.sink ≡ x.sink → y.kept ≡ x.kept ++ bytes → Adds held faults x y bytes
keeps {A} {held} {faults} x y bytes stop sink kept = record {
  adds = λ f text on. record {
    front = on.front;
    sent = subst (λ (o : Option Stop). IsSent held faults f on.front o y.sink) (sym stop) (subst (λ (s : MutBor A). IsSent held faults f on.front x.stop s) (sym sink) on.sent);
    whole = ap (λ (t : List ℕ). t ++ bytes) on.whole ∙ (append_assoc on.front x.kept bytes ∙ ap (λ (k : List ℕ). on.front ++ k) (sym kept));
  };
}

-- ---- a write

-- one that was made
pub wrote : {A : Type 0} {held : A → Option (List ℕ)} {faults : A → ℕ} (stop : Option Stop) (sink sink' : MutBor A) (bytes : List ℕ) → stop ≡ None → Appends (held sink.now) (held sink'.now) bytes → faults sink'.now ≡ faults sink.now → sink'.ghost_name ≡ sink.ghost_name → Writes held faults stop sink stop sink' bytes
wrote {A} {held} {faults} None sink sink' bytes none more same name = record {
  writes = λ f text on. record {
    same = name ∙ on.same;
    told = (appends_more (held f.now) (held sink.now) (held sink'.now) text bytes on.told.0 more, same ∙ on.told.1);
  };
}
wrote (Some s) sink sink' bytes none more same name = absurd (cc)

-- ---- the sink of a text

pub from_more : {A : Type 0} {held : A → Option (List ℕ)} {faults : A → ℕ} {x y : Sending A} (o : Option (MutBor A)) (text bytes : List ℕ) → IsFrom held faults o text x → Adds held faults x y bytes → IsFrom held faults o (text ++ bytes) y
from_more None text bytes h a = h
from_more (Some first) text bytes h a = a.adds first text h

pub from_end : {A : Type 0} {held : A → Option (List ℕ)} {faults : A → ℕ} {x : Sending A} {stop : Option Stop} {sink : MutBor A} (o : Option (MutBor A)) (text : List ℕ) → IsFrom held faults o text x → Ends held faults x stop sink → IsSentFrom held faults o text stop sink
from_end None text h e = h
from_end (Some first) text h e = e.ends first text h

-- no text yet
pub from_nothing : {A : Type 0} (held : A → Option (List ℕ)) (faults : A → ℕ) (o : Option (MutBor A)) (sink : MutBor A) (x : Sending A) → o ≡ Some sink → x ≡ record { sink = sink; stop = None; kept = [] } → IsFrom held faults o [] x
from_nothing {A} held faults o sink x is at = subst (λ (p : Option (MutBor A)). IsFrom held faults p [] x) (sym is) (subst (λ (y : Sending A). IsUnderWay held faults sink [] y) (sym at) (record { front = []; sent = record { same = refl; told = (nothing (held sink.now), refl) }; whole = refl }))
  where
    nothing : (h : Option (List ℕ)) → Appends h h []
    nothing None = refl
    nothing (Some h) = ap Some (sym (append-nil h))

pub sent_to : {A : Type 0} {held : A → Option (List ℕ)} {faults : A → ℕ} {text : List ℕ} {stop : Option Stop} {sink : MutBor A} (o : Option (MutBor A)) (first : MutBor A) → o ≡ Some first → IsSentFrom held faults o text stop sink → IsSent held faults first text stop sink
sent_to {A} {held} {faults} {text} {stop} {sink} o first is h = subst (λ (p : Option (MutBor A)). IsSentFrom held faults p text stop sink) is h

-- some text, and more of it
pub some_more : {A : Type 0} {held : A → Option (List ℕ)} {faults : A → ℕ} {x y : Sending A} {bytes : List ℕ} (o : Option (MutBor A)) → IsSome held faults o x → Adds held faults x y bytes → IsSome held faults o y
some_more {bytes = bytes} o h a = (h.0 ++ bytes, from_more o h.0 bytes h.1 a)

-- ---- what came of it

-- all of it was written, nothing for want of memory, or a write failed
pub sent_whole : {A : Type 0} {held : A → Option (List ℕ)} {faults : A → ℕ} {first sink : MutBor A} {text : List ℕ} {stop : Option Stop} → IsSent held faults first text stop sink → stop ≡ None → Appends (held first.now) (held sink.now) text
sent_whole {A} {held} {faults} {first} {sink} {text} h e = (subst (λ (o : Option Stop). IsTold held faults text first.now o sink.now) e h.told).0

pub sent_nothing : {A : Type 0} {held : A → Option (List ℕ)} {faults : A → ℕ} {first sink : MutBor A} {text : List ℕ} {stop : Option Stop} → IsSent held faults first text stop sink → stop ≡ Some Memory → sink.now ≡ first.now
sent_nothing {A} {held} {faults} {first} {sink} {text} h e = subst (λ (o : Option Stop). IsTold held faults text first.now o sink.now) e h.told

pub sent_badly : {A : Type 0} {held : A → Option (List ℕ)} {faults : A → ℕ} {first sink : MutBor A} {text : List ℕ} {stop : Option Stop} → IsSent held faults first text stop sink → stop ≡ Some Fault → Rose (faults first.now) (faults sink.now)
sent_badly {A} {held} {faults} {first} {sink} {text} h e = subst (λ (o : Option Stop). IsTold held faults text first.now o sink.now) e h.told
