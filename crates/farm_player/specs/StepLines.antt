-- The lines of steps, as a schedule has them.
use Rattle.std.specs.Prelude.{ℕ, List, [], ◌∷◌, ◌++◌, codes, Option, Some, None, slice_get}
use Rattle.hex.specs.Hex.{encode_lower}
use Rattle.dia_base.specs.declared.number.NodeNo.{NodeNo}
use Rattle.dia_message.specs.declared.message.Message.{Message}
use Rattle.dia_message.specs.Spelling.{octets_of}
use Rattle.farm_base.specs.declared.site.Node.{Node}
use Rattle.farm_base.specs.declared.site.Site.{Site}
use Rattle.farm_base.specs.declared.step.Step.{Step}
use Rattle.farm_base.specs.declared.step.Step.TheVariants.{Up, Accept, Opened, Send, Deliver, Lose, Cut, Drop}
use Rattle.farm_base.specs.declared.step.Step.TheVariants.{Restart, Crash, Pick, Charge, Refuse, Emit, Sweep, ChangeTerms}
use Rattle.farm_player.specs.ChangeWords.{change_words, number_word}

-- ---- words, each behind a space

-- the name of a node of the site
abbrev pub name_in : Option Node → List ℕ
name_in None = []
name_in (Some node) = node.name

abbrev pub name_at : Site → NodeNo → List ℕ
name_at site node = name_in (slice_get site.nodes node.0)

abbrev pub word_of_name : Site → NodeNo → List ℕ
word_of_name site node = 32 ∷ name_at site node

-- in small letters
abbrev pub message_word : Message → List ℕ
message_word message = 32 ∷ encode_lower (octets_of message)

-- ---- the words of a step

-- a step's own word, and the nodes that it is about
abbrev pub about_one : Site → List ℕ → NodeNo → List ℕ
about_one site word node = word ++ word_of_name site node

abbrev pub about_two : Site → List ℕ → NodeNo → NodeNo → List ℕ
about_two site word a b = about_one site word a ++ word_of_name site b

abbrev pub words_of_step : Site → Step → List ℕ
words_of_step site (Up a b) = about_two site (codes "up") a b
words_of_step site (Accept at from) = about_two site (codes "accept") at from
words_of_step site (Opened a b) = about_two site (codes "opened") a b
words_of_step site (Send client to message) = about_two site (codes "send") client to ++ message_word message
words_of_step site (Deliver from to place) = about_two site (codes "deliver") from to ++ number_word place
words_of_step site (Lose from to place) = about_two site (codes "lose") from to ++ number_word place
words_of_step site (Cut a b) = about_two site (codes "cut") a b
words_of_step site (Drop a b) = about_two site (codes "drop") a b
words_of_step site (Restart node) = about_one site (codes "restart") node
words_of_step site (Crash node) = about_one site (codes "crash") node
words_of_step site (Pick front worker) = about_one site (codes "pick") front ++ number_word worker
words_of_step site (Charge front worker moment) = about_one site (codes "charge") front ++ number_word worker ++ number_word moment.0
words_of_step site (Refuse front worker) = about_one site (codes "refuse") front ++ number_word worker
words_of_step site (Emit front worker) = about_one site (codes "emit") front ++ number_word worker
words_of_step site (Sweep moment) = codes "sweep" ++ number_word moment.0
words_of_step site (ChangeTerms moment change) = codes "terms" ++ number_word moment.0 ++ change_words change

-- with its line feed
abbrev pub step_line : Site → Step → List ℕ
step_line site step = words_of_step site step ++ 10 ∷ []
