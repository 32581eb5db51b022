mod Complete
mod DriveLemmas
mod PlayedLines
mod ReplyLemmas
