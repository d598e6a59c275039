-- Right because a call's answer and the agent that it leaves come of one outcome, and so may be computed from it: the worked cases
-- of frames after the same frames are computed together, each call once. Assumes nothing.
use mathlib.Core.Path.{◌≡◌, refl, sym, ap, ◌∙◌}
use mathlib.Core.List.{List, [], ◌∷◌, map}
use Prim.Native.Nat.{ℕ, zero, suc}
use Rattle.rules.specs.Frame.{Command, too_short, malformed, on_streams, on_pipeline, on_tables}
use Rattle.rules.specs.Answer.{Reply, reply_of}
use Rattle.rules.specs.Call.{State, fresh, stream_event, pipeline_command, table_command, with_streams, with_rows, next_control, next_tables, next}
use Rattle.rules.specs.Call.{plain, event_answer, answer, reply, run}
use Rattle.rules.specs.Sample.{command_in, after, answer_to, answers, Each, InTurn}

-- ---- calls

-- what is made of a call's answer and of the agent that it leaves
abbrev pub taking : {A : Type 0} → State → Command → (Reply → State → A) → A
taking s too_short k = k (reply_of (plain 2)) s
taking s malformed k = k (reply_of (plain 1)) s
taking s (on_streams x) k =
    let o = stream_event s x in
    k (reply_of (event_answer o)) (record { control = with_streams s.control o.after; tables = s.tables })
taking s (on_pipeline x) k =
    let o = pipeline_command s x in
    k (reply_of (plain o.reason)) (record { control = with_rows s.control o.rows; tables = o.tables })
taking s (on_tables x) k =
    let o = table_command s x in
    k (reply_of o.answer) (record { control = s.control; tables = o.tables })

taking-is : {A : Type 0} (s : State) (c : Command) (k : Reply → State → A) → taking s c k ≡ k (reply s c) (next s c)
unfolding reply next answer next_control next_tables
taking-is s too_short k = refl
taking-is s malformed k = refl
taking-is s (on_streams x) k = refl
taking-is s (on_pipeline x) k = refl
taking-is s (on_tables x) k = refl

-- the answers to calls, and the agent after them
abbrev pub replies : State → List Command → List Reply
replies s [] = []
replies s (c ∷ cs) = taking s c (λ (r : Reply) (s' : State). r ∷ replies s' cs)

abbrev left : State → List Command → State
left s [] = s
left s (c ∷ cs) = taking s c (λ (r : Reply) (s' : State). left s' cs)

pub replies-are : (s : State) (fs : List (List ℕ)) → replies s (map command_in fs) ≡ answers s fs
replies-are s [] = refl
replies-are s (f ∷ fs) =
    taking-is s (command_in f) (λ (r : Reply) (s' : State). r ∷ replies s' (map command_in fs))
    ∙ ap (λ (rs : List Reply). reply s (command_in f) ∷ rs) (replies-are (next s (command_in f)) fs)

left_is : (s : State) (cs : List Command) → left s cs ≡ run s cs
unfolding run
left_is s [] = refl
left_is s (c ∷ cs) = taking-is s c (λ (r : Reply) (s' : State). left s' cs) ∙ left_is (next s c) cs

-- ---- lists of frames with their answers

abbrev pub Cases : Type 0
Cases = List (List ℕ × Reply)

abbrev pub frames : Cases → List (List ℕ)
frames cases = map (λ (c : List ℕ × Reply). c.0) cases

abbrev pub due : Cases → List Reply
due cases = map (λ (c : List ℕ × Reply). c.1) cases

abbrev start : List (List ℕ) → State
start fs = left (fresh 1) (map command_in fs)

-- what each list of frames gets, sent in turn after the frames fs; and each frame by itself
abbrev in_turn : List (List ℕ) → List Cases → List (List Reply)
in_turn fs runs = let s = start fs in map (λ (r : Cases). replies s (map command_in (frames r))) runs

abbrev singly : List (List ℕ) → List Cases → List (List Reply)
singly fs runs = let s = start fs in map (λ (r : Cases). map (λ (c : List ℕ × Reply). reply s (command_in c.0)) r) runs

-- It is what is due. A proof by `computed-in-turn` or `computed-singly` of the very lists that its signature names is computed once.
abbrev pub InTurns : List (List ℕ) → List Cases → Type 0
InTurns fs runs = in_turn fs runs ≡ map due runs

abbrev pub Singly : List (List ℕ) → List Cases → Type 0
Singly fs runs = singly fs runs ≡ map due runs

pub computed-in-turn : (fs : List (List ℕ)) (runs : List Cases) → in_turn fs runs ≡ in_turn fs runs
computed-in-turn fs runs = refl

pub computed-singly : (fs : List (List ℕ)) (runs : List Cases) → singly fs runs ≡ singly fs runs
computed-singly fs runs = refl

-- ---- and so of each list

-- P of the element at place k
abbrev pub At : {A : Type 0} → (A → Type 0) → List A → ℕ → Type 0
At P [] k = Unit {0}
At P (x ∷ xs) zero = P x
At P (x ∷ xs) (suc k) = At P xs k

module _ {B : Type 0} where
  abbrev head_or : B → List B → B
  head_or d [] = d
  head_or d (x ∷ xs) = x

  abbrev tail : List B → List B
  tail [] = []
  tail (x ∷ xs) = xs

at_each : {A B : Type 0} (f g : A → B) (l : List A) → map f l ≡ map g l → (k : ℕ) → At (λ (x : A). f x ≡ g x) l k
at_each f g [] e k = tt
at_each f g (x ∷ xs) e zero = ap (head_or (f x)) e
at_each f g (x ∷ xs) e (suc k) = at_each f g xs (ap tail e) k

start_is : (fs : List (List ℕ)) → start fs ≡ after fs
start_is fs = left_is (fresh 1) (map command_in fs)

abbrev answered : List (List ℕ) → Cases → List Reply
answered fs r = answers (after fs) (frames r)

answered-is : (fs : List (List ℕ)) (r : Cases) → replies (start fs) (map command_in (frames r)) ≡ answered fs r
answered-is fs r = replies-are (start fs) (frames r) ∙ ap (λ (s : State). answers s (frames r)) (start_is fs)

pub in-turn : (fs : List (List ℕ)) (runs : List Cases) → InTurns fs runs → (k : ℕ) → At (InTurn fs) runs k
in-turn fs runs e = at_each (answered fs) due runs (sym (λ i. map (λ (r : Cases). answered-is fs r i) runs) ∙ e)

pub each : (fs : List (List ℕ)) (runs : List Cases) → Singly fs runs → (k : ℕ) → At (Each fs) runs k
each fs runs e =
    at_each (λ (r : Cases). map (λ (c : List ℕ × Reply). answer_to fs c.0) r) due runs
    (sym (ap (λ (s : State). map (λ (r : Cases). map (λ (c : List ℕ × Reply). reply s (command_in c.0)) r) runs) (start_is fs)) ∙ e)
