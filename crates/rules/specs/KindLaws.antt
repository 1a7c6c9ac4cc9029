-- Laws of the list of kinds.
use Rattle.std.specs.Prelude.{Bool, cond, List, [], ◌∷◌, ◌≢◌, ◌≡◌, ℕ, zero, suc, ◌≤◌, eqb, length, get_or}
use Rattle.std.proofs.Math.Bool.{true, false}
use Rattle.std.proofs.Math.Path.{refl, fun_ext}
use Rattle.std.proofs.Common.{arith, ne_eqb, leb-true}
use Rattle.queue.specs.Order.{All, none, more}
use Rattle.rules.specs.Kinds.{Kind, kinds, told_in, widths, says_call, of_kind, reading, spelled, kind_of, numbers_of}
use Rattle.rules.specs.declared.Call.{Call}
use Rattle.rules.specs.declared.Call.TheVariants.{TaskCreate, TaskDelete, ChangePriority, Suspend, Resume, Yield, Delay, DelayResume, Lock, Unlock, Tick, SetDefaultQuantum, SemaphoreCreate, SemaphoreDelete, SemaphoreWait, SemaphorePost, SemaphoreAbort, MutexCreate, MutexDelete, MutexWait, MutexPost, MutexAbort, GroupCreate, GroupDelete, GroupWait, GroupPost, GroupAbort, ChannelCreate, ChannelDelete, ChannelWait, ChannelPost, ChannelAbort, ChannelFlush}

-- ---- what is told of a kind

-- So it is of each kind of the list.
pub data Each (P : Kind → Type 0) : List Kind → Type 0 where
  end : Each P []
  with : {r : Kind} {rs : List Kind} → P r → Each P rs → Each P (r ∷ rs)

module _ {A : Type 0} where
  -- What holds whatever kind it is, and where there is none.
  pub told_each : (P : A → Type 0) (told : Kind → A) (l : List Kind) (k : ℕ) (lacking : A) → Each (λ r. P (told r)) l → P lacking → P (told_in l k told lacking)
  unfolding told_in
  told_each P told l k lacking end o = o
  told_each P told l k lacking (with {r} {rs} p e) o = go (eqb k r.byte) (told_each P told rs k lacking e o)
    where
      go : (b : Bool) → P (told_in rs k told lacking) → P (cond b (told r) (told_in rs k told lacking))
      go true q = p
      go false q = q

  -- What is told of no kind.
  pub told_none : (k : ℕ) (l : List Kind) (told : Kind → A) (lacking : A) → Each (λ r. k ≢ r.byte) l → told_in l k told lacking ≡ lacking
  unfolding told_in
  told_none k l told lacking end = refl
  told_none k l told lacking (with {r} {rs} d e) = rw (ne_eqb k r.byte d) (told_none k rs told lacking e)

-- What is made of what is told.
pub told_of_lem : {A B : Type 0} (f : A → B) (l : List Kind) (k : ℕ) (told : Kind → A) (lacking : A) → f (told_in l k told lacking) ≡ told_in l k (λ r. f (told r)) (f lacking)
unfolding told_in
told_of_lem f [] k told lacking = refl
told_of_lem f (r ∷ rs) k told lacking = go (eqb k r.byte) (told_of_lem f rs k told lacking)
  where
    go : (b : Bool) → f (told_in rs k told lacking) ≡ told_in rs k (λ r. f (told r)) (f lacking)
        → f (cond b (told r) (told_in rs k told lacking)) ≡ cond b (f (told r)) (told_in rs k (λ r. f (told r)) (f lacking))
    go true e = refl
    go false e = e

-- ---- widths and numbers

-- No call has more than six numbers, and none of them more than 4 bytes.
pub record Narrow (ws : List ℕ) : Type 0 where
  pub six : length ws ≤ 6
  pub four : (i : ℕ) → get_or ws i 0 ≤ 4

-- What holds of each number of a list and of 0 holds at each place.
pub all_at : {P : ℕ → Type 0} {l : List ℕ} → P 0 → All P l → (i : ℕ) → P (get_or l i 0)
all_at z none i = z
all_at z (more h a) zero = h
all_at z (more h a) (suc i) = all_at z a i

narrow : {ws : List ℕ} → length ws ≤ 6 → All (λ w. w ≤ 4) ws → Narrow ws
narrow s a = record { six = s; four = all_at {P = λ w. w ≤ 4} (omega arith) a }

pub widths-narrow : (k : ℕ) → Narrow (widths k)
unfolding widths
widths-narrow k = told_each Narrow (λ r. r.widths) kinds k [] (search (end, with, narrow, none, more, leb-true) depth 80 fits 12000) (search (narrow, none, leb-true))

-- The same numbers, with any number of zeros behind them,
abbrev pub Same : List ℕ → List ℕ → Type 0
Same l m = (i : ℕ) → get_or l i 0 ≡ get_or m i 0

-- say the same.
pub reading_same : (kind : ℕ) (l m : List ℕ) → Same l m → reading kind l ≡ reading kind m
unfolding reading of_kind
reading_same kind l m same = rw (fun_ext same)

-- ---- a call and its kind

-- What a call spells says that call.
pub said_back : (c : Call) (interrupt : Bool) → of_kind (kind_of c) (numbers_of c) interrupt ≡ says_call c interrupt
unfolding told_in of_kind spelled
said_back (TaskCreate i base quantum) interrupt = refl
said_back (TaskDelete i) interrupt = refl
said_back (ChangePriority i base) interrupt = refl
said_back (Suspend i) interrupt = refl
said_back (Resume i) interrupt = refl
said_back Yield interrupt = refl
said_back (Delay n) interrupt = refl
said_back (DelayResume i) interrupt = refl
said_back Lock interrupt = refl
said_back Unlock interrupt = refl
said_back Tick interrupt = refl
said_back (SetDefaultQuantum n) interrupt = refl
said_back (SemaphoreCreate s n) interrupt = refl
said_back (SemaphoreDelete s force) interrupt = refl
said_back (SemaphoreWait s block limit) interrupt = refl
said_back (SemaphorePost s) interrupt = refl
said_back (SemaphoreAbort s) interrupt = refl
said_back (MutexCreate m) interrupt = refl
said_back (MutexDelete m force) interrupt = refl
said_back (MutexWait m block limit) interrupt = refl
said_back (MutexPost m) interrupt = refl
said_back (MutexAbort m) interrupt = refl
said_back (GroupCreate g flags) interrupt = refl
said_back (GroupDelete g force) interrupt = refl
said_back (GroupWait g block limit mask test consume) interrupt = refl
said_back (GroupPost g mask on) interrupt = refl
said_back (GroupAbort g) interrupt = refl
said_back (ChannelCreate c capacity) interrupt = refl
said_back (ChannelDelete c force) interrupt = refl
said_back (ChannelWait c block limit) interrupt = refl
said_back (ChannelPost c message front) interrupt = refl
said_back (ChannelAbort c) interrupt = refl
said_back (ChannelFlush c) interrupt = refl
