-- Laws on this crate's definitions, made for other crates too.
-- what the position of the first item that passes tells of the items before it
pub mod Positions
-- where a text is cut at every byte of one value
pub mod Splits
-- the text of lines that stand one behind another
pub mod LineTexts
-- what comes after a line that was cut off, and that something does
pub mod TextPieces
-- when two words are the same
pub mod SameWords
-- a name that is found stands at its place, and each thread's name is found there
pub mod Names
-- what a name's letters are, and how many there may be
pub mod NameParts
-- `==` on verdicts is equality
pub mod SameVerdicts
-- `==` on steps is equality
pub mod SameEvents
-- threads that rise from a least one on
pub mod RisingPlaces
-- a number's canonical decimal is read as the number where it is in range, and nothing else is
pub mod Decimals
-- a text has at most one first fault
pub mod FirstFaults
-- words with one space between them are cut into the same words
pub mod SplitWords
-- no byte of a name, a number or a verdict is a space or an LF
pub mod TextBytes
-- how many bytes names, numbers and verdicts have
pub mod TextSizes
-- a verdict's text by form is read as its outcome, and what is read as a verdict is one by form
pub mod VerdictForms
-- a verdict's text is read as the verdict, and nothing else is
pub mod VerdictsRead
-- each word of the asks of traces is its verb's alone, and what versions of traces have a verb
pub mod TraceVerbs
