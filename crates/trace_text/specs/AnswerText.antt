-- The text of answers.
use Rattle.std.specs.Prelude.{ℕ, List, [], ◌∷◌, ◌++◌, codes, decimal, Option, Some, None}
use Rattle.std.specs.List.{flat_map}
use Rattle.csv.specs.Writing.{default_writer, row_text}
use Rattle.frame_words.specs.declared.fault.Fault.{Fault}
use Rattle.frame_words.specs.declared.fault.Fault.TheVariants as fault
use Rattle.trace_text.specs.declared.reply.Answer.{Answer}
use Rattle.trace_text.specs.declared.reply.Reply.{Reply}
use Rattle.trace_text.specs.declared.reply.Reply.TheVariants as reply

-- the word for a refusal
abbrev pub word_of : Fault → List ℕ
word_of fault.BadOrder = codes "BadOrder"
word_of fault.NoBlock = codes "NoBlock"
word_of fault.Contended = codes "Contended"
word_of fault.NotHeld = codes "NotHeld"
word_of _ = []

-- the fields of a block, if there is one
abbrev pub block_fields : Option (ℕ × ℕ) → List (List ℕ)
block_fields (Some b) = decimal b.0 ∷ decimal b.1 ∷ []
block_fields None = [] ∷ [] ∷ []

-- the word for a reply, and the block that it names
abbrev pub reply_fields : Reply → List (List ℕ)
reply_fields (reply.Taken frame order) = codes "Taken" ∷ decimal frame ∷ decimal order ∷ []
reply_fields (reply.Given frame order) = codes "Given" ∷ decimal frame ∷ decimal order ∷ []
reply_fields (reply.Moved frame order) = codes "Moved" ∷ decimal frame ∷ decimal order ∷ []
reply_fields (reply.Refused fault) = word_of fault ∷ [] ∷ [] ∷ []

-- the record of an answer
abbrev pub answer_row : Answer → List (List ℕ)
answer_row a = decimal a.line ∷ decimal a.core ∷ reply_fields a.reply

-- the last record: how many frames are held and free
abbrev pub closing_row : ℕ → ℕ → List (List ℕ)
closing_row held free = codes "end" ∷ [] ∷ codes "Closed" ∷ decimal held ∷ decimal free ∷ []

-- the records of answers, as csv writes them with its defaults
unfoldable pub answer_rows_text : List Answer → List ℕ
answer_rows_text answers = flat_map (λ a. row_text default_writer (answer_row a)) answers

-- the records of answers and the last one
unfoldable pub answers_of : List Answer → ℕ → ℕ → List ℕ
answers_of answers held free = answer_rows_text answers ++ row_text default_writer (closing_row held free)
