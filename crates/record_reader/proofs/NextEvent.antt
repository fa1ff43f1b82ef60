-- A line that was read says what stands next in its record.
use Rattle.std.proofs.Common.{◌≡◌, ℕ, List, Option, Some, None, Ok, Err, refl, ap, ◌∙◌}
use Rattle.farm_base.specs.declared.site.Site.{Site}
use Rattle.farm_script.specs.declared.fault.LineFault.{LineFault}
use Rattle.farm_script.specs.declared.fault.LineFault.TheVariants.{UnknownWord, WrongCount, UnknownName, BadNumber, BadHex, BadMessage, TooManySteps, OutOfMemory}
use Rattle.record_reader.specs.NextEvent.{HasFault, IsFaultUnlessMemory, IsSaidFirst, SaysNothing, SaysTheSame}
use Rattle.record_reader.specs.Reading.{AnswersLine, Said, Nothing, said_by}
use Rattle.record_reader.specs.Telling.{said_by_lines, said_in_record}
use Rattle.record_reader.specs.WholeLines.{GivesFirst, HasNoLine}
use Rattle.record_reader.proofs.RecordBack.{follows, followed_nothing}

-- ---- one line

pub first_said : (site : Site) (line : List ℕ) (said : Said) (old new : Option (List ℕ)) → GivesFirst old new line → said_by site line ≡ Ok said → IsSaidFirst site said old new
first_said site line said None new first is = tt
first_said site line said (Some octets) None first is = absurd first
first_said site line said (Some octets) (Some others) first is = ap (said_by_lines site) first ∙ rw is (follows said (said_in_record site others))

first_nothing : (site : Site) (line : List ℕ) (old new : Option (List ℕ)) → GivesFirst old new line → said_by site line ≡ Ok Nothing → SaysTheSame site old new
first_nothing site line None new first is = tt
first_nothing site line (Some octets) None first is = absurd first
first_nothing site line (Some octets) (Some others) first is =
    first_said site line Nothing (Some octets) (Some others) first is ∙ followed_nothing (said_in_record site others)

first_fault : (site : Site) (line : List ℕ) (fault : LineFault) (old new : Option (List ℕ)) → GivesFirst old new line → said_by site line ≡ Err fault → HasFault site fault old
first_fault site line fault None new first is = tt
first_fault site line fault (Some octets) None first is = absurd first
first_fault site line fault (Some octets) (Some others) first is = ap (said_by_lines site) first ∙ rw is refl

nothing_more : (site : Site) (old : Option (List ℕ)) → HasNoLine old → SaysNothing site old
nothing_more site None none = tt
nothing_more site (Some octets) none = ap (said_by_lines site) none

-- ---- behind lines that say nothing

pub same_said : (site : Site) (old mid new : Option (List ℕ)) → SaysTheSame site old mid → SaysTheSame site mid new → SaysTheSame site old new
same_said site None mid new a b = tt
same_said site (Some x) None new a b = absurd a
same_said site (Some x) (Some y) None a b = absurd b
same_said site (Some x) (Some y) (Some z) a b = a ∙ b

pub still_said : (site : Site) (old : Option (List ℕ)) → SaysTheSame site old old
still_said site None = tt
still_said site (Some octets) = refl

-- a line more that says nothing
pub skipped : (site : Site) (line : List ℕ) (old mid new : Option (List ℕ)) → SaysTheSame site old mid → GivesFirst mid new line → said_by site line ≡ Ok Nothing
    → SaysTheSame site old new
skipped site line old mid new same first is = same_said site old mid new same (first_nothing site line mid new first is)

-- the line that says something
pub said_behind : (site : Site) (line : List ℕ) (said : Said) (old mid new : Option (List ℕ)) → SaysTheSame site old mid → GivesFirst mid new line
    → said_by site line ≡ Ok said → IsSaidFirst site said old new
said_behind site line said None mid new same first is = tt
said_behind site line said (Some x) None new same first is = absurd same
said_behind site line said (Some x) (Some y) None same first is = absurd first
said_behind site line said (Some x) (Some y) (Some z) same first is = same ∙ first_said site line said (Some y) (Some z) first is

pub fault_behind : (site : Site) (line : List ℕ) (fault : LineFault) (old mid new : Option (List ℕ)) → SaysTheSame site old mid → GivesFirst mid new line
    → said_by site line ≡ Err fault → HasFault site fault old
fault_behind site line fault None mid new same first is = tt
fault_behind site line fault (Some x) None new same first is = absurd same
fault_behind site line fault (Some x) (Some y) new same first is = same ∙ first_fault site line fault (Some y) new first is

pub none_behind : (site : Site) (old mid : Option (List ℕ)) → SaysTheSame site old mid → HasNoLine mid → SaysNothing site old
none_behind site None mid same none = tt
none_behind site (Some x) None same none = absurd same
none_behind site (Some x) (Some y) same none = same ∙ nothing_more site (Some y) none

-- ---- what is given

pub fault_given : (site : Site) (line : List ℕ) (old mid new : Option (List ℕ)) (fault : LineFault) → SaysTheSame site old mid → GivesFirst mid new line
    → AnswersLine (said_by site line) (Err fault) → IsFaultUnlessMemory site fault old
fault_given site line old mid new UnknownWord same first is = fault_behind site line UnknownWord old mid new same first is
fault_given site line old mid new WrongCount same first is = fault_behind site line WrongCount old mid new same first is
fault_given site line old mid new UnknownName same first is = fault_behind site line UnknownName old mid new same first is
fault_given site line old mid new BadNumber same first is = fault_behind site line BadNumber old mid new same first is
fault_given site line old mid new BadHex same first is = fault_behind site line BadHex old mid new same first is
fault_given site line old mid new BadMessage same first is = fault_behind site line BadMessage old mid new same first is
fault_given site line old mid new TooManySteps same first is = fault_behind site line TooManySteps old mid new same first is
fault_given site line old mid new OutOfMemory same first is = tt
