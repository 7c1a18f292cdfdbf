mod Told
mod Written
mod Continued
mod Opened
mod Sent
